-- what is promised
pub mod Resolved
-- what functions, laws and examples say besides
pub mod PlanSentences
pub mod Decided
