-- what is promised
pub mod Walks
pub mod Walked
pub mod WalkProtocol
-- what functions say besides
pub mod WalkMachine
pub mod Progress
