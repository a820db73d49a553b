mod BuilderLemmas
pub mod FeatureLines
pub mod Searches
