pub mod Appended
pub mod ReadRequests
pub mod ReadBack
