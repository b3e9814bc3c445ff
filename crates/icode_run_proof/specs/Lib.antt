pub mod Making
pub mod Steps
pub mod Ticking
pub mod Relation
pub mod Laws
