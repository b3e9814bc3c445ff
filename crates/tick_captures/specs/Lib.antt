pub mod Captures
pub mod Found
pub mod Kinds
