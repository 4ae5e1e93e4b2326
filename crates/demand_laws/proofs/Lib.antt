pub mod RowFacts
pub mod Answered
pub mod ReadBack
pub mod Demand
pub mod NeverBoth
pub mod Whole
mod VoidStations
