pub mod Operands
pub mod Operators
pub mod Stages
pub mod Places
pub mod Calls
