pub mod Lowered
pub mod Counted
mod Captured
mod Standing
pub mod Wholes
pub mod Issued
mod Words
pub mod Alike
