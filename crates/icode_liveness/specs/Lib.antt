pub mod Order
pub mod Rooms
