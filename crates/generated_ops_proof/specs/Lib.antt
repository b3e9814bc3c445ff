pub mod Keys
pub mod Room
pub mod Answers
pub mod Laws
