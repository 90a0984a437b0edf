pub mod Crunching
pub mod Splitting
pub mod Splitter
pub mod Netstrings
pub mod Transform
pub mod Computed
pub mod Laws
