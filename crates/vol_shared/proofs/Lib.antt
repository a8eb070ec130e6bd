pub mod Lists
pub mod Agreement
pub mod Steps
pub mod Seats
pub mod Calls
pub mod ClosedVolumes
pub mod Prefixes
