pub mod Layout
pub mod Texts
