-- what is promised
pub mod Folders
pub mod Tables
pub mod Baselines
pub mod RegistryFiles
pub mod Agreement
-- what functions, laws and examples say besides
pub mod TableViews
pub mod BaselineViews
