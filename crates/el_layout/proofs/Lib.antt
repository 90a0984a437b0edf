pub mod Layouts
pub mod Printing
