pub mod Velocities
pub mod Chosen
