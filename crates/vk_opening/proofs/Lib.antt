pub mod LoopLemmas
pub mod ReadLemmas
pub mod StoreLemmas
pub mod OpenLemmas
pub mod LawLemmas
