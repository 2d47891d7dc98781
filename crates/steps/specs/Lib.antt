pub mod Text
pub mod Step
pub mod Back
