pub mod Blame
pub mod Placing
pub mod Preparing
pub mod TextParts
pub mod CutOutputs
pub mod Prelude
