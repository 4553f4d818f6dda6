pub mod Options
pub mod Misuses
