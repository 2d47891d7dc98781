pub mod Replies
pub mod History
