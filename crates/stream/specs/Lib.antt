pub mod Cell
pub mod Input
