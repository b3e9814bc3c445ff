pub mod Syntax
pub mod Events
