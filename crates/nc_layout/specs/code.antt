pub mod Records
pub mod PassedSlots
pub mod BlockEnds
pub mod Sweep
