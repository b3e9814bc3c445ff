pub mod Names
pub mod Numbers
pub mod Instructions
pub mod Text
