pub mod Input
pub mod Steps
pub mod Bases
pub mod Declarators
pub mod Ends
pub mod Expressions
pub mod Statements
pub mod Nests
