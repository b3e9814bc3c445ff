pub mod Assigned
pub mod Precedence
pub mod Parts
