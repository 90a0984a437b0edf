pub mod Operands
pub mod Meaning
pub mod Laws
pub mod Turns
pub mod Starts
pub mod LoopValues
pub mod Rows
