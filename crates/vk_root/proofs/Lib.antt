pub mod FeatureLemmas
pub mod OffSetLemmas
pub mod GrowthLemmas
pub mod AskedNameLemmas
pub mod NamedLemmas
pub mod InstanceOrderLemmas
pub mod OverrideLemmas
