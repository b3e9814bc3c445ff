pub mod Laws
pub mod Places
pub mod Made
pub mod Bodies
pub mod Ops
pub mod Below
