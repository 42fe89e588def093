pub mod Export
pub mod RoundTrip
pub mod Steps
