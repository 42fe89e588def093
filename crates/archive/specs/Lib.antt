pub mod Surplus
pub mod Archive
pub mod Steps
