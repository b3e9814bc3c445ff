pub mod Lists
pub mod Scan
pub mod Laws
