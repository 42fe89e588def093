pub mod Lengths
pub mod Rule
pub mod Search
pub mod Days
pub mod Table
