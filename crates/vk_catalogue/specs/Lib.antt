-- what functions, laws and examples say besides
pub mod Views
pub mod PageViews
pub mod Shelves
pub mod MemCatalogues
pub mod GivenManifests
pub mod SoundPages
