pub mod Nearest
pub mod WellFormed
pub mod Rounding
pub mod Ties
pub mod DigitValues
pub mod Parsing
pub mod ClosedCases
