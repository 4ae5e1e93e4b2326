pub mod Crossings
pub mod Walks
