pub mod Rooms
pub mod Distances
pub mod Sources
pub mod SourceLaws
