pub mod Facts
pub mod Rows
