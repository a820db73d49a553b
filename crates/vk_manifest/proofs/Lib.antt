mod KeyLemmas
mod FeatureOrders
pub mod TellingLemmas
pub mod DocumentLemmas
