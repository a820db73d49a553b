-- what is promised
pub mod Flaws
-- what functions, laws and examples say besides
pub mod Asked
