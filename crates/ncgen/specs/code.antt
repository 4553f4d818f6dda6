pub mod Prepared
pub mod TextReads
pub mod RunSteps
pub mod Options
