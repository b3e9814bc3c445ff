pub mod Kinds
pub mod Flow
pub mod Live
pub mod Places
pub mod Finished
pub mod Labels
