pub mod Bounds
pub mod Texts
pub mod Where
