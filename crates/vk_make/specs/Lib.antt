-- what is promised
pub mod Makes
pub mod Several
pub mod MakeIs
pub mod Keeping
pub mod Leaving
pub mod Asked
