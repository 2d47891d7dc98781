pub mod Double
pub mod Convert
pub mod Reply
pub mod Exact
pub mod Back
