pub mod Tallies
pub mod Progress
pub mod Ran
pub mod Served
pub mod Laws
