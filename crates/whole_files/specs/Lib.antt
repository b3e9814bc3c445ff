pub mod File
pub mod Input
