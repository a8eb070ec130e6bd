pub mod Needs
pub mod Permissions
