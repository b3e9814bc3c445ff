pub mod Paths
pub mod Rows
pub mod Search
pub mod Order
