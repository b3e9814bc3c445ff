pub mod Operators
pub mod Bodies
pub mod Shared
pub mod Rows
