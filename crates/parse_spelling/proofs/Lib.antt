pub mod Nodes
pub mod Gives
pub mod Lists
pub mod Declared
pub mod Expressed
pub mod Stated
