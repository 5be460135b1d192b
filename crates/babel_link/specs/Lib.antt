pub mod Moments
pub mod Histories
pub mod Words
pub mod WordLaws
pub mod Links
pub mod Neighbours
pub mod Places
