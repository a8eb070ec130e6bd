pub mod PackScans
pub mod Searches
pub mod SoundFronts
pub mod WordSums
pub mod FoundVolumes
