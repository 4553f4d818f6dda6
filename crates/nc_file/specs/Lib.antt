pub mod OneOutcome
pub mod code
