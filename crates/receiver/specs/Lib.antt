pub mod Rule
pub mod Receive
pub mod Told
pub mod Line
pub mod Shape
pub mod Worked
