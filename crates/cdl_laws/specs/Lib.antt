pub mod Reading
pub mod RoundTrip
pub mod Goods
pub mod Limits
pub mod Trims
pub mod TokenLaws
pub mod PieceLaws
pub mod RowLaws
