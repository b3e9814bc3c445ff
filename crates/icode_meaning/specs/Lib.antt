pub mod Costs
pub mod State
pub mod Steps
pub mod Functions
