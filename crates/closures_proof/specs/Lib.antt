pub mod Ops
pub mod OpLaws
pub mod Relation
pub mod CapturedWords
pub mod Laws
pub mod Ticks
pub mod Variables
pub mod Below
