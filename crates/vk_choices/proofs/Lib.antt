mod RowLemmas
mod AskLemmas
mod FloorLemmas
mod TopLemmas
mod ConflictLemmas
mod SettleLemmas
mod ClearLemmas
