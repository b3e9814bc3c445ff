pub mod Codes
pub mod Extents
pub mod Shared
pub mod Sizes
