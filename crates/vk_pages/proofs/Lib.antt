pub mod BaselineLemmas
pub mod PageLaws
