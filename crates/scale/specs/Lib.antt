pub mod Scaling
pub mod Legacy
pub mod Pdb
pub mod Physical
pub mod Thresholds
pub mod Tenths
