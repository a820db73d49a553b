pub mod PartSteps
pub mod SizeLemmas
pub mod JobLemmas
pub mod MakeLemmas
pub mod TaskLemmas
pub mod PlayStages
pub mod PlayLists
pub mod PlayLaws
