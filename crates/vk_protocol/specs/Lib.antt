-- what is promised
pub mod Protocols
pub mod Runs
pub mod Below
pub mod Keeps
pub mod Turns
-- what functions say besides
pub mod Asking
