pub mod Values
pub mod Faults
