pub mod Tokens
pub mod Braces
pub mod Block
pub mod Computed
pub mod Speller
pub mod Laws
pub mod Faults
