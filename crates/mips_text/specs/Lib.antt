pub mod Assembly
pub mod Gathered
