pub mod Representable
pub mod Rounding
mod Fractions
pub mod Operations
pub mod Signs
pub mod FixedPoint
pub mod Roots
pub mod Comparisons
mod Shapes
pub mod Checks
pub mod Past
