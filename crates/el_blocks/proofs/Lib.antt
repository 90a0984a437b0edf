pub mod Answered
pub mod Blocks
pub mod Chains
pub mod Found
pub mod Indented
pub mod Runs
