pub mod Recorded
pub mod WholeRecord
pub mod OtherSizes
