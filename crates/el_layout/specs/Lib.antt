pub mod Layout
pub mod ReadsBack
