pub mod Counts
pub mod OpenedFiles
pub mod Endings
