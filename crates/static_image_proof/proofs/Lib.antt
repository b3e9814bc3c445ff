pub mod Faultless
pub mod Tables
pub mod Generators
pub mod Coded
pub mod Compiled
pub mod Machine
pub mod Whole
pub mod Holds
