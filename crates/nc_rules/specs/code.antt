pub mod Passes
pub mod FirstNames
pub mod WholeHeaders
