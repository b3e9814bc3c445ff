pub mod Lower
pub mod Specifications
pub mod TickPieces
pub mod Captured
pub mod Keys
pub mod Generated
