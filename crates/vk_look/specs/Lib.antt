-- what is promised
pub mod LookIs
pub mod Looks
pub mod LookCalls
