pub mod Catalogue
pub mod Covered
