pub mod Behind
pub mod Steps
