-- what is promised
pub mod RootSettings
pub mod Overrides
-- what functions, laws and examples say besides
pub mod Requirers
pub mod Roots
pub mod Offs
pub mod AskedNames
pub mod NamedInstances
