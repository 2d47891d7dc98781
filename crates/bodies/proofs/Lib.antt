pub mod Bodies
pub mod Requests
pub mod Position
