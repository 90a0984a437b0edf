pub mod Descriptors
pub mod DescriptorFaults
pub mod Troubles
pub mod Children
pub mod Kids
pub mod Inputs
pub mod Processes
pub mod Statuses
