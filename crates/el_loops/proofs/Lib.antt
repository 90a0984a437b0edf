pub mod Leads
pub mod RepeatsOn
pub mod Breaks
pub mod TurnsOn
pub mod ValuesOf
pub mod ReadsOn
pub mod InPlace
