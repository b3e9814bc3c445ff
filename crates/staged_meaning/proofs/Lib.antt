pub mod Examples
pub mod Stages
