pub mod Contents
pub mod Limits
pub mod Kinds
pub mod code
