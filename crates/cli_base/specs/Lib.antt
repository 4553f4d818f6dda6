pub mod Arguments
pub mod code
