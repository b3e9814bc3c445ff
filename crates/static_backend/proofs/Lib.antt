mod Filled
mod Taken
pub mod Coded
pub mod Drafts
pub mod Grown
pub mod Images
pub mod Known
pub mod Loops
pub mod Planned
pub mod Results
pub mod Slices
pub mod Generators
