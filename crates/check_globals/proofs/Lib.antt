pub mod Parameters
pub mod Heads
