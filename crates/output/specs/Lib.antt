pub mod Mode
pub mod Text
pub mod Units
