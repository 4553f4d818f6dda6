pub mod Bytes
pub mod Totals
pub mod PartRuns
pub mod Prelude
