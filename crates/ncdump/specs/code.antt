pub mod HeadFaults
pub mod Names
pub mod Options
pub mod Selections
pub mod Shows
