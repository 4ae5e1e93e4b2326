pub mod Grid
pub mod SearchGrid
pub mod Sides
pub mod Stations
