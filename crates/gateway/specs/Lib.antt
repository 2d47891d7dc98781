pub mod Entries
pub mod Serving
pub mod History
