pub mod CodeLaws
pub mod ExtentLaws
pub mod Coded
pub mod SameCodes
