-- what is promised
pub mod Runs
