mod MapLemmas
mod NoteLemmas
mod ArrangeLemmas
mod LevelLemmas
mod EndLemmas
mod TickLemmas
pub mod PlaceLemmas
mod RowLemmas
mod LineLemmas
mod JoinLemmas
mod SourceLemmas
