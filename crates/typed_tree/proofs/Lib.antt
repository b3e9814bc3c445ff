pub mod At
pub mod Totals
pub mod SizeLaws
pub mod ValueLaws
pub mod Views
pub mod Fusion
