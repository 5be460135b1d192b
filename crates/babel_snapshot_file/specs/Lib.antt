pub mod Codes
pub mod Faults
