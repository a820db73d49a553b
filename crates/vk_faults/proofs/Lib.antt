pub mod NoteLemmas
pub mod EntryLemmas
pub mod MetLemmas
