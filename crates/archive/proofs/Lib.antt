pub mod RunSums
pub mod Tests
pub mod InWords
pub mod Profile
pub mod Passing
pub mod CodeRuns
pub mod Coherence
pub mod Examples
