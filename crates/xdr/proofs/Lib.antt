pub mod Items
pub mod ItemLaws
pub mod Chains
pub mod Onward
pub mod Plains
pub mod Examples
pub mod Places
