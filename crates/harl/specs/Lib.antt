pub mod Message
pub mod Back
pub mod Length
pub mod Place
