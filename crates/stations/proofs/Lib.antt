pub mod Grids
pub mod Places
