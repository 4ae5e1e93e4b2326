pub mod Numbers
pub mod Twos
mod Writing
pub mod Tabled
pub mod RoundTrip
pub mod Cuts
pub mod Laid
pub mod Same
