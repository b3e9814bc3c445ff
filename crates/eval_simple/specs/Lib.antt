pub mod Simple
pub mod Stepped
