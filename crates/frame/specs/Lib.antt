pub mod Checksum
pub mod Fields
pub mod Frame
pub mod Back
