pub mod Bits
pub mod On
pub mod Place
