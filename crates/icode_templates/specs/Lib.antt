pub mod Words
pub mod Layout
pub mod Templates
pub mod Seen
pub mod Frames
pub mod Expansion
