pub mod Calls
pub mod Scanned
pub mod Drafted
pub mod Plans
pub mod Ticks
