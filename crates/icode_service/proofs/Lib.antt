pub mod Outcomes
pub mod Writes
pub mod Made
pub mod Finishes
pub mod Serving
