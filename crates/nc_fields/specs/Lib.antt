pub mod Fields
pub mod Lenient
pub mod Entries
pub mod Listings
pub mod code
