pub mod Generator
pub mod Compile
pub mod Blocks
pub mod Laws
pub mod Written
