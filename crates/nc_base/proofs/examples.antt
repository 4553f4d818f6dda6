mod Files
mod Places
mod Texts
pub mod Written
