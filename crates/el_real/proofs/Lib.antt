pub mod Entries
pub mod Holding
pub mod Lines
pub mod Names
pub mod ReadBack
pub mod Showing
pub mod Streams
pub mod Unfound
