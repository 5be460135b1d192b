pub mod Texts
pub mod Growing
pub mod About
pub mod GrowingLists
pub mod FileTexts
pub mod Costs
