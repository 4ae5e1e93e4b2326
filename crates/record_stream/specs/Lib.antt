pub mod Streams
pub mod Reasons
