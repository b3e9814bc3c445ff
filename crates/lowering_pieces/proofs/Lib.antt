pub mod Ended
pub mod Lists
pub mod Made
pub mod Puts
pub mod Switched
pub mod Whole
pub mod WholeStmts
