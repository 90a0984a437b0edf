pub mod Imports
pub mod Alike
pub mod Laws
