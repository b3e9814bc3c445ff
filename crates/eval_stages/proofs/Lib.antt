pub mod Compiles
pub mod Counted
pub mod Ticks
pub mod Walks
pub mod Notes
