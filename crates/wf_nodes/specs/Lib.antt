pub mod Scopes
pub mod Right
pub mod Values
pub mod Used
