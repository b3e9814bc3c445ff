pub mod Done
pub mod Going
pub mod Laws
pub mod Stepped
