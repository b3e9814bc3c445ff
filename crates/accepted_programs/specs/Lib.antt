pub mod Mains
pub mod Laws
