pub mod PinLemmas
pub mod KnownLemmas
pub mod StepLemmas
pub mod FloorLemmas
pub mod AloneLemmas
pub mod TrackLemmas
pub mod RootLemmas
pub mod CloseLemmas
