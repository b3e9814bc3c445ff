pub mod Cut
pub mod Stacks
