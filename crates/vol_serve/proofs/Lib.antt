pub mod HeldNodes
pub mod ListedEntries
pub mod ListedSlots
pub mod MessageLaws
pub mod ReadPieces
pub mod RepliedNodes
pub mod WholeListings
