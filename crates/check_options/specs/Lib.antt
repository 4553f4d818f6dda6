pub mod KindWords
pub mod Misuse
pub mod CommandLine
pub mod code
