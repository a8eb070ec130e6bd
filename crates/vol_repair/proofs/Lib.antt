pub mod Claiming
pub mod Comparison
pub mod LongerFiles
pub mod LongerCopies
pub mod Pairing
pub mod Repairs
pub mod Telling
