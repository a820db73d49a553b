pub mod SizeLemmas
pub mod LookSteps
