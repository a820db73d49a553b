mod Digests
mod EntriesExist
pub mod Existence
mod FilesExist
mod NodeLemmas
mod PlanFeatures
mod PlanLemmas
mod ProgressLemmas
mod RestLemmas
mod RightNodes
mod SeenTexts
mod TextLemmas
pub mod Uniques
mod WalkEnds
