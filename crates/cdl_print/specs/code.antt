pub mod Pieces
pub mod Words
pub mod Leads
pub mod Printing
pub mod Printer
pub mod Fills
pub mod NumberTexts
