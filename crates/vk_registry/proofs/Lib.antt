mod StepLemmas
mod AskLemmas
mod FolderLemmas
pub mod TableLemmas
mod EntryLemmas
mod TellingLemmas
