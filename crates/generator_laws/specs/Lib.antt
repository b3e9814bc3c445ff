pub mod Calls
pub mod Pieces
pub mod Served
pub mod Covered
pub mod Chosen
pub mod Laws
pub mod Told
pub mod Builds
