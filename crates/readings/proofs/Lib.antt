pub mod Exact
pub mod Back
