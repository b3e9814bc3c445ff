pub mod Fronts
pub mod Chunks
