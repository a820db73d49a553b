-- what is promised
pub mod Counts
pub mod Lists
pub mod Paths
pub mod Files
pub mod States
pub mod Sinks
pub mod Fronts
pub mod Reading
pub mod Versions
pub mod Conditions
pub mod Manifests
pub mod Settings
pub mod Pages
pub mod Earlies
pub mod Catalogues
-- what functions, laws and examples say besides
pub mod Standing
pub mod Calls
pub mod AskedCalls
