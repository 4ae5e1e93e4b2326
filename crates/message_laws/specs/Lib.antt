pub mod Exactness
pub mod RoundTrip
pub mod Refusals
