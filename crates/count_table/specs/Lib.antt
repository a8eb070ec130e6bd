pub mod Sums
pub mod Views
pub mod Rule
pub mod Tallies
