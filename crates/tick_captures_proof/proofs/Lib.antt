pub mod Rows
pub mod TickKinds
pub mod Counted
pub mod Once
pub mod Named
