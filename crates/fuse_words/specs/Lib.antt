pub mod Laws
pub mod Replies
pub mod Requests
