pub mod FirstByte
pub mod FirstSign
pub mod Within
