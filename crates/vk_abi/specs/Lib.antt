-- what is promised
pub mod Nodes
pub mod Plans
pub mod LawsOnPlans
-- what only this crate says to itself
pub mod Written
