pub mod JudgedPacks
pub mod ListedVolumes
