pub mod Lookups
pub mod CutLines
pub mod Rest
pub mod Gathering
