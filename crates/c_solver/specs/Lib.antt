pub mod Curve
pub mod OutcomeWord
