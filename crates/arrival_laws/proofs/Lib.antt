mod Joining
pub mod Placing
pub mod Posting
mod Few
mod Keeping
pub mod Standing
pub mod Order
pub mod Highest
pub mod Again
pub mod ClosedCases
