pub mod Body
pub mod Position
