-- what is promised
pub mod Json
pub mod Loads
-- what functions say besides
pub mod Puts
