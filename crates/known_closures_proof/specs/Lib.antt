pub mod Known
pub mod Laws
pub mod States
pub mod StateLaws
pub mod Functions
