pub mod Slots
pub mod Steps
pub mod Places
pub mod Wholes
pub mod Keeping
pub mod GoodTables
pub mod Written
