-- what is promised
pub mod Sets
-- what functions, laws and examples say besides
pub mod Members
pub mod Places
pub mod Seats
pub mod Items
pub mod Assembled
pub mod Judging
