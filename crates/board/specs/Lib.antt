pub mod Board
pub mod Internals
pub mod Posting
