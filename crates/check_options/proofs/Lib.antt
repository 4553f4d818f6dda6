pub mod Prelude
pub mod CommandLines
pub mod KindLists
