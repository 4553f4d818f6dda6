pub mod Scanners
pub mod Magnitudes
pub mod PlainTokens
pub mod Unescaping
