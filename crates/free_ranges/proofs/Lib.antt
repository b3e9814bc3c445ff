pub mod Fits
pub mod Stays
pub mod Gives
pub mod Packed
pub mod Orders
pub mod Units
