pub mod Scans
pub mod Digits
pub mod Escapes
pub mod Printed
pub mod OrdinaryRuns
pub mod Stops
pub mod Found
pub mod Lexed
