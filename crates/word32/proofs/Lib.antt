pub mod Shifts
pub mod Signs
pub mod Places
pub mod PartLaws
pub mod SpaceLaws
pub mod Views
pub mod WordLaws
mod Written
