pub mod Bands
pub mod Dues
pub mod Charges
pub mod Examples
