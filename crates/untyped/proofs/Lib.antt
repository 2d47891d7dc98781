pub mod Answers
pub mod Worked
