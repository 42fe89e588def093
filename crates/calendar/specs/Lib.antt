pub mod Calendar
pub mod Days
