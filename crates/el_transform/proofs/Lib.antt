pub mod Crunched
pub mod Split
pub mod SplitterRows
pub mod Pieces
pub mod Lengths
pub mod FirstNetstring
pub mod Filled
pub mod Whole
