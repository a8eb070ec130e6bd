pub mod Laws
pub mod Lines
pub mod Lists
pub mod Maps
pub mod Words
