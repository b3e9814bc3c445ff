pub mod Outside
pub mod Answers
pub mod Does
pub mod Generated
pub mod Said
pub mod Seen
pub mod Laws
