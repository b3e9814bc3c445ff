pub mod Image
pub mod Format
