pub mod Laws
pub mod Light
pub mod Parts
pub mod Trees
