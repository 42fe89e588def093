pub mod Bytes
pub mod Float
pub mod SameFloat
pub mod Text
pub mod Refusal
pub mod Result
pub mod Products
pub mod Reading
