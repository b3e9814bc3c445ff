pub mod Statics
pub mod Found
mod WrittenExpressions
pub mod Written
