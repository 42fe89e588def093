pub mod BlankValues
pub mod Dates
pub mod Endings
pub mod Gaps
pub mod InPart
pub mod Printed
pub mod Rounded
pub mod Words
