-- what is promised
pub mod Gathers
pub mod GatherIs
-- what functions say besides
pub mod FilesToGather
pub mod EachOnce
pub mod GatherMachine
