pub mod PathLists
pub mod Faults
pub mod Info
pub mod Formats
pub mod Tallies
pub mod Runs
pub mod code
