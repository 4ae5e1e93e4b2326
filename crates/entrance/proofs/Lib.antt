pub mod Table
pub mod Unless
