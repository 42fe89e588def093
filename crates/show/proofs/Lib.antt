pub mod BlankValues
pub mod Decimals
pub mod Digits
pub mod Examples
pub mod Gaps
pub mod InPart
pub mod Signs
pub mod Zeros
