-- what is promised
pub mod Graphs
pub mod Flaws
-- what functions, laws and examples say besides
pub mod Needs
pub mod Bases
pub mod Links
pub mod Manifests
pub mod Followed
