mod Prelude
pub mod IndexedLists
pub mod NameKeys
pub mod Located
pub mod OneOrder
pub mod Found
