pub mod Cutters
pub mod Views
pub mod DueTokens
pub mod Contents
pub mod ListedTokens
pub mod ValueLists
pub mod PassedValues
pub mod ShapeFaults
