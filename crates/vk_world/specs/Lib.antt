-- what is promised
pub mod HomeNotes
pub mod VersionFolders
-- what functions, laws and examples say besides
pub mod Learning
pub mod PortAsks
pub mod ManifestNotes
pub mod Listed
pub mod Libraries
pub mod Worlds
