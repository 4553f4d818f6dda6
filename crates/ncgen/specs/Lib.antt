pub mod Generated
pub mod Generates
pub mod CommandLine
pub mod Faults
pub mod Inputs
pub mod Outputs
pub mod Runs
pub mod code
