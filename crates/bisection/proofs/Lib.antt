pub mod Halving
pub mod LowerSide
pub mod Intervals
