pub mod ResolveLemmas
pub mod PlanSentenceLemmas
