pub mod Crossed
pub mod Table
pub mod Internals
pub mod Solve
