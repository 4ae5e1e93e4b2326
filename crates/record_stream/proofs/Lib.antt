pub mod Starts
pub mod Streams
mod Words
