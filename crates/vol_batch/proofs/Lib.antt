mod FreedBlocks
pub mod FreedNumbers
pub mod GoneCalls
mod GoneNames
pub mod GoneTrees
pub mod MadeCalls
pub mod MadeNames
pub mod MadePaths
mod Removals
mod TakenPaths
