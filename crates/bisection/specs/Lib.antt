pub mod Halving
pub mod Interval
pub mod Pairs
