pub mod Numbers
pub mod Registers
pub mod Operations
pub mod Names
pub mod Data
