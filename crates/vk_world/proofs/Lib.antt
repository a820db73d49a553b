pub mod LearnLemmas
pub mod ListedLemmas
pub mod ManifestLemmas
pub mod NoteLemmas
pub mod LibraryLemmas
pub mod WorldLemmas
