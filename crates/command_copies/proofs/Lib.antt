pub mod Listings
pub mod ReadTrees
