pub mod Untyped
pub mod Answers
pub mod Worked
