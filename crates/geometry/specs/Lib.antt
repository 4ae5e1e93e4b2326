pub mod Triangles
pub mod Conditions
