pub mod Bytes
pub mod Tables
