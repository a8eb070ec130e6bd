mod Clauses
pub mod BadLooks
pub mod BadValues
pub mod BadWords
pub mod Builds
pub mod Copies
pub mod DumpWords
pub mod ExcludedWords
pub mod Faults
pub mod FileWords
pub mod Moments
pub mod Names
pub mod OwnerWords
pub mod UnsoundWords
pub mod Values
pub mod PictureWords
pub mod TracedPlays
