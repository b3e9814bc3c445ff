pub mod Types
pub mod Kinds
