pub mod Pipes
pub mod Putting
pub mod Pipeline
pub mod Backtick
