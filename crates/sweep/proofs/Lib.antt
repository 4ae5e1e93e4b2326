pub mod Counts
pub mod Lists
pub mod Reports
pub mod Turns
