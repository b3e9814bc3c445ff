pub mod Sorted
pub mod Links
