pub mod Answers
pub mod Coherence
pub mod Constants
pub mod Naming
