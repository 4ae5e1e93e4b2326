pub mod Layout
pub mod Constants
pub mod Records
pub mod Ranges
