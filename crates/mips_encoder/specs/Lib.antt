pub mod LinkRegisters
pub mod Codes
pub mod Fields
pub mod Table
pub mod Decoded
pub mod Addresses
