pub mod ListedBlocks
pub mod Pushes
pub mod Ranges
