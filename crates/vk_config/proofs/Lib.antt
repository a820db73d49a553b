mod CutLemmas
mod StepLemmas
mod ClosenessLemmas
mod ServingLaws
mod FirstLemmas
mod TellingLemmas
