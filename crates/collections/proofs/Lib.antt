pub mod Links
pub mod Membership
