pub mod Layout
pub mod Place
pub mod Spelling
pub mod Split
pub mod Walk
