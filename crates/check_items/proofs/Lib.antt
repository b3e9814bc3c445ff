pub mod Globals
pub mod Parts
