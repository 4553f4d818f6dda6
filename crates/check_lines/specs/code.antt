pub mod Names
pub mod Written
pub mod Styles
