pub mod TextFiles
