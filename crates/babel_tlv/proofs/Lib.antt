pub mod Steps
pub mod Found
pub mod Spelled
pub mod Splits
