mod NumberLemmas
mod ArgumentLemmas
mod GivenLemmas
mod FirstFaultLemmas
mod StepLemmas
mod OnceLemmas
pub mod SizeLemmas
