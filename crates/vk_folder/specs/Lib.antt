-- what is promised
pub mod Folders
-- what functions and laws say besides
pub mod Hashed
