-- what is promised
pub mod Manifests
-- what functions, laws and examples say besides
pub mod Steps
pub mod Keys
pub mod Names
