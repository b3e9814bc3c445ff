pub mod Items
pub mod Spelling
pub mod Trees
pub mod Words
