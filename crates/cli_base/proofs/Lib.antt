pub mod Flags
pub mod Refusals
