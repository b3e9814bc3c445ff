pub mod Ran
pub mod Switches
pub mod Turned
