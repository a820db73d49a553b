-- what is promised
pub mod Names
pub mod Entries
pub mod Publish
pub mod Aside
pub mod Outcomes
pub mod Shared
pub mod Found
-- what functions say besides
pub mod PublishMachine
pub mod AsideMachine
