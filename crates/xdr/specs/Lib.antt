pub mod Xdr
pub mod Cursor
pub mod Each
