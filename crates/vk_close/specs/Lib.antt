-- what is promised
pub mod Known
pub mod Kept
-- what functions, laws and examples say besides
pub mod Floors
pub mod Steps
pub mod Roots
