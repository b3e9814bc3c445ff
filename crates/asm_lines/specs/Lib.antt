pub mod Pieces
pub mod Operands
pub mod Drafts
pub mod Lines
