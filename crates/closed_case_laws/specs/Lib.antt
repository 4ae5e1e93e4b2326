pub mod Given
pub mod Worked
