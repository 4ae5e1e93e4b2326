pub mod Rounding
pub mod Ties
pub mod Parsing
