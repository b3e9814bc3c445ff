pub mod Agree
pub mod Lists
pub mod Marks
pub mod Turns
pub mod SymbolLaws
