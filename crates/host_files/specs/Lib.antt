pub mod Archives
pub mod Folders
pub mod OpenedFiles
pub mod Packs
pub mod ReadParts
pub mod Save
