pub mod Scan
pub mod Read
pub mod Put
pub mod Whole
pub mod Hundredths
pub mod Back
