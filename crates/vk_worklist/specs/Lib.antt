-- what is promised
pub mod Entries
pub mod Faults
pub mod Ticks
pub mod Alone
pub mod Places
pub mod Rows
-- what functions, laws and examples say besides
pub mod Orders
pub mod Joining
pub mod Arranged
