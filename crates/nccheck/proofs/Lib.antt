pub mod Prelude
pub mod InTurn
pub mod Listing
pub mod Endings
pub mod Openings
pub mod Formats
