pub mod Roots
pub mod Shapes
pub mod Questions
pub mod Times
pub mod Worked
pub mod Voids
