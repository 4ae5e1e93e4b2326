pub mod Conditions
pub mod Judge
pub mod Table
