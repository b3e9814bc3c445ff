pub mod Lists
pub mod Blocks
pub mod Tables
pub mod Search
pub mod Listed
