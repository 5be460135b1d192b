pub mod CollectionLemmas
pub mod DueLemmas
pub mod PairLemmas
