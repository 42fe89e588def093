pub mod Header
pub mod Pdb
