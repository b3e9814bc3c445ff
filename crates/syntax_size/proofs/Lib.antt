pub mod Folds
pub mod Small
