pub mod Laws
pub mod Requests
pub mod Replies
pub mod Accepted
pub mod Lengths
pub mod Place
