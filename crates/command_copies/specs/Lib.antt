pub mod Lists
pub mod Members
pub mod Nodes
pub mod Trees
