pub mod Bytes
pub mod Escapes
pub mod Scan
pub mod Tokens
pub mod Numerals
pub mod code
