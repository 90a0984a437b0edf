pub mod Recorded
pub mod Chosen
