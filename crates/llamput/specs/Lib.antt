pub mod Choice
pub mod Reading
