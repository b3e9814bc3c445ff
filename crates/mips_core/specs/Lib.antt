pub mod Core
pub mod Places
