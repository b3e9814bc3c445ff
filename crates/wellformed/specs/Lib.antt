pub mod Accepted
pub mod Captured
pub mod Counts
pub mod Places
pub mod Values
pub mod Program
