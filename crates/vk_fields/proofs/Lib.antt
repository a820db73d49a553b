mod KeyLemmas
pub mod Saying
pub mod Schemes
pub mod SameLemmas
pub mod TellingLemmas
