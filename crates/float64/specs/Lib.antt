pub mod Notation
pub mod Value
pub mod Isqrt
pub mod Root
pub mod FourRoots
pub mod Nearness
pub mod Internals
