mod WholeRoot
mod Lengths
mod Significands
pub mod Patterns
pub mod Comparisons
pub mod Bits
mod Trials
mod Rounds
mod Normalising
mod Assembly
mod ExactTest
mod Cases
mod FourRootsLemmas
mod Range
pub mod Grid
pub mod Law
