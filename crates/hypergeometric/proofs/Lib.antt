mod Ratios
pub mod ReasonNumbers
