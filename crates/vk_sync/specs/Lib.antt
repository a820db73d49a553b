-- what is promised
pub mod Syncs
