pub mod AtOnce
pub mod Begins
pub mod Ended
pub mod Executed
pub mod Labels
pub mod Turns
pub mod Starts
pub mod Taken
