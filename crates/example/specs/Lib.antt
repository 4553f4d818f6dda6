pub mod Headers
pub mod Opened
pub mod code
