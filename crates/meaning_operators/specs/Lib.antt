pub mod Values
pub mod Constants
