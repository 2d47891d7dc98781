pub mod Read
pub mod Laws
pub mod Fields
pub mod Digits
pub mod Decimals
pub mod Signed
pub mod Back
pub mod Parts
