pub mod Checks
pub mod Lists
pub mod Answers
pub mod PassedValues
pub mod Numbers
pub mod Starts
