pub mod Bytes
pub mod Types
pub mod Versions
pub mod Names
pub mod Escapes
pub mod code
