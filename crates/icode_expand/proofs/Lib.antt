mod Rows
pub mod Counted
pub mod Appended
pub mod Marked
pub mod Lengths
pub mod Placed
pub mod Spliced
pub mod Written
pub mod Most
