pub mod SizeParts
pub mod SoundParts
pub mod OwedValues
pub mod ListedRows
pub mod Weight
pub mod PartRuns
pub mod Extents
pub mod LaterPieces
