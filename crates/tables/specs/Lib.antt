pub mod Tables
pub mod Arms
