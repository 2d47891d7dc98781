pub mod Data
pub mod Ranges
