pub mod Waiting
pub mod Operands
pub mod Called
pub mod Running
pub mod Settling
pub mod Forms
