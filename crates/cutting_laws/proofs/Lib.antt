mod More
mod Calls
mod Pieces
pub mod Refusals
pub mod Holding
pub mod Cuttings
mod Parts
pub mod Taking
pub mod Reaching
pub mod OnlyTaken
pub mod ClosedCases
