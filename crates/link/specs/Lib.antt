pub mod Served
pub mod History
