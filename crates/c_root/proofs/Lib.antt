pub mod Law
mod FourRefused
