pub mod Adapters
pub mod Devices
pub mod Mishaps
pub mod Steps
pub mod Words
