pub mod Pairs
pub mod Holding
pub mod Visiting
