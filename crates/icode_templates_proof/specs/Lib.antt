pub mod Spots
pub mod Moves
pub mod Laws
pub mod Malloc
pub mod MallocLaws
pub mod Closures
pub mod Routines
pub mod RoutineLaws
