pub mod RootBits
pub mod FourNumbers
