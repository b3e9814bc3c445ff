pub mod Chains
pub mod Contents
pub mod Members
pub mod Positions
