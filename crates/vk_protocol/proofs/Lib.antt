pub mod ProtocolLemmas
pub mod RunLemmas
pub mod KeepLemmas
pub mod TurnLemmas
pub mod KeptRuns
pub mod BelowLemmas
