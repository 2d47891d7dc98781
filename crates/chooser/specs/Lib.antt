pub mod Turn
pub mod Fair
pub mod Worked
