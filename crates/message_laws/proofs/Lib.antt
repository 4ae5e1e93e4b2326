pub mod Exactness
pub mod Refusals
pub mod RoundTrip
pub mod Lengths
pub mod ClosedCases
