pub mod Lines
pub mod Back
