pub mod Saves
pub mod Fronts
pub mod Outcomes
pub mod Runs
pub mod Intervals
pub mod Scans
pub mod Spoken
