pub mod Declarations
pub mod Expressions
pub mod Few
pub mod Layers
pub mod Statements
pub mod States
pub mod Tree
pub mod Walks
