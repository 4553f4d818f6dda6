pub mod Shown
pub mod Paths
pub mod Messages
pub mod Details
pub mod Lines
pub mod Json
pub mod code
