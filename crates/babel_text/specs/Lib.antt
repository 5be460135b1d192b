pub mod Readings
pub mod Numbers
pub mod Octets
pub mod Prefixes
pub mod RouterIds
pub mod Fields
pub mod Lines
pub mod LogLines
