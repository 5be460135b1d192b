pub mod Codes
pub mod Words
pub mod Times
pub mod Verbs
pub mod Names
pub mod Actions
pub mod Plans
pub mod Files
