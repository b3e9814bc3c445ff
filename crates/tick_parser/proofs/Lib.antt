pub mod Declared
pub mod Found
pub mod Heads
pub mod Parsed
pub mod Programs
pub mod Spelled
