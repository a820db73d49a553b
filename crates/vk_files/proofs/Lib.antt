pub mod NoteLemmas
pub mod NotedLemmas
pub mod OnceLemmas
pub mod CacheLemmas
pub mod ReadLemmas
pub mod WithinLemmas
pub mod FindLemmas
pub mod FirstLemmas
