pub mod Answers
pub mod FaultTexts
