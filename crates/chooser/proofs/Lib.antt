pub mod Picks
pub mod Fair
pub mod Worked
