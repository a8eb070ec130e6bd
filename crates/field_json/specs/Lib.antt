pub mod Changes
pub mod Items
pub mod Laws
pub mod Meanings
pub mod Roles
pub mod Rows
pub mod Values
