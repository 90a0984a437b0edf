pub mod Optstring
pub mod Environment
pub mod Parsing
pub mod Calls
pub mod Laws
pub mod Faults
pub mod Reader
pub mod Parses
