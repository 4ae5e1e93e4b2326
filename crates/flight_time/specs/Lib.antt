pub mod Steps
pub mod Time
