pub mod Places
pub mod Used
pub mod Laws
