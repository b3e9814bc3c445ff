pub mod Words
pub mod Division
pub mod Bytes
pub mod Parts
pub mod Space
pub mod Laws
