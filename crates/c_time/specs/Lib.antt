pub mod TimeBits
pub mod SweepNumber
