pub mod Next
pub mod Told
pub mod History
