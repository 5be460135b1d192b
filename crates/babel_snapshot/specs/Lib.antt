pub mod Layout
pub mod Octets
pub mod Reading
pub mod SnapshotLaws
