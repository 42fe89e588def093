pub mod Tariff
pub mod Charges
