pub mod ChoiceLemmas
pub mod RevisionLemmas
pub mod RunLemmas
