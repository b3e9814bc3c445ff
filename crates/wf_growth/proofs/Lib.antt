pub mod Functions
pub mod Given
pub mod Globals
pub mod Programs
pub mod Starts
