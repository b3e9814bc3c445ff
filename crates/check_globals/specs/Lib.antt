pub mod Functions
pub mod Names
pub mod Programs
pub mod Statics
pub mod Parameters
pub mod Program
