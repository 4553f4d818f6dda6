pub mod Failures
pub mod Sources
pub mod Sinks
pub mod Openers
pub mod Uses
pub mod Readers
pub mod Creators
pub mod code
