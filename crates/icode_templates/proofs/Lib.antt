mod Rows
pub mod Appended
