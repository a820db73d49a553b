-- what is promised
pub mod Configs
pub mod Patterns
pub mod Registries
pub mod Readings
pub mod Embedding
pub mod Serving
pub mod Closeness
pub mod FirstPlaces
-- what functions, laws and examples say besides
pub mod RegistryViews
pub mod IndexViews
pub mod Views
pub mod Steps
