pub mod Spans
pub mod Gatherings
pub mod Finds
pub mod Owned
pub mod Pointers
pub mod Found
pub mod HolderLaws
pub mod Tallies
pub mod UseLaws
pub mod LostNames
pub mod Shared
pub mod LaidOut
pub mod Named
pub mod Columns
pub mod CellLaws
pub mod NodeUses
mod LostBlocks
