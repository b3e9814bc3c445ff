pub mod Examples
pub mod Bools
pub mod Equations
pub mod Uses
pub mod Viewed
pub mod Named
