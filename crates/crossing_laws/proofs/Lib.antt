mod Keeping
pub mod AnyTriangle
pub mod BracketLaws
pub mod Corners
pub mod FiniteTimes
pub mod FirstReason
pub mod FirstVoids
pub mod Theorems
pub mod VoidStations
