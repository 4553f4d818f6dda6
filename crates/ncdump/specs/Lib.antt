pub mod Calls
pub mod Faults
pub mod Dumps
pub mod OneDump
pub mod CommandLine
pub mod Runs
pub mod code
