pub mod Reading
pub mod Tables
pub mod Faults
pub mod Excluded
pub mod EventTexts
pub mod FileReading
pub mod HeardTexts
