pub mod DataParts
