pub mod DigitLemmas
pub mod FilePaths
pub mod LawLemmas
pub mod ListTexts
pub mod LoadLemmas
