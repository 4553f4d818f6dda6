mod Elements
mod ReadParts
pub mod Prints
pub mod Outcomes
pub mod FileLaws
pub mod HeaderLen
pub mod Weights
pub mod BeginLaws
pub mod Prelude
