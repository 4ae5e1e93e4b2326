pub mod Padding
pub mod Zeros
pub mod Held
pub mod Conflicts
mod Filling
