pub mod Cut
pub mod Token
pub mod Search
pub mod Fields
pub mod Coherence
pub mod Bounds
pub mod Examples
pub mod Constants
