mod CutLemmas
pub mod CompareLemmas
pub mod VerdictLemmas
mod HeadingLemmas
mod CheckLemmas
mod ShownLemmas
mod MarkLemmas
mod CertifyLemmas
mod EntryLemmas
mod StepLemmas
