pub mod Layout
pub mod Words
pub mod Served
pub mod Told
pub mod Headline
pub mod Laws
