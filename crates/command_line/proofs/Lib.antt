pub mod FoundWords
pub mod Listings
pub mod ReadWords
pub mod SecondLines
pub mod Shapes
