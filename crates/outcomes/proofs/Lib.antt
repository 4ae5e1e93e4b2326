mod Ends
pub mod Written
