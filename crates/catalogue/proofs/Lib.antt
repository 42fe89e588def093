pub mod Constants
pub mod Covered
