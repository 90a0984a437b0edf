pub mod Imports
pub mod Formed
pub mod Accepted
pub mod Layouts
mod Tasks
mod Words
mod Children
mod Readings
mod Control
mod Pipes
mod Loops
mod Import
mod Effects
pub mod Meanings
