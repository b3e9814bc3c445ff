pub mod Causes
pub mod Files
pub mod Moves
pub mod Endings
