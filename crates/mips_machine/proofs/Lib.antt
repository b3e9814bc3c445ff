pub mod More
pub mod Quiet
pub mod Stretch
pub mod Moves
pub mod Idle
pub mod Acts
pub mod Makes
pub mod Generates
