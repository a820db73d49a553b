pub mod SetLemmas
pub mod RootLemmas
pub mod LinkLemmas
pub mod ChosenLemmas
pub mod FollowLemmas
pub mod PlannedLemmas
pub mod TakenLemmas
