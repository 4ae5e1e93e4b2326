mod Lengths
pub mod Verdicts
mod Refusals
mod Writing
pub mod Laws
