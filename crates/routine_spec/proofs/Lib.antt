pub mod Captured
pub mod Dear
pub mod DearTrees
pub mod DearStmts
pub mod Short
pub mod Fitting
