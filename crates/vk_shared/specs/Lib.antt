-- what is promised
pub mod Tasks
pub mod Plays
pub mod MakeMachine
-- what functions say besides
pub mod Stocks
pub mod ItemMachine
