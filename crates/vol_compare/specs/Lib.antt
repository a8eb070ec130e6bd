pub mod Bodies
pub mod Json
pub mod Laws
pub mod Lines
pub mod Members
pub mod Merge
