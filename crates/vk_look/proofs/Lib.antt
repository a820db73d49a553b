pub mod PlaceTests
pub mod FileTells
pub mod LookTells
pub mod OneAnswer
pub mod OnceRuns
pub mod CallLemmas
pub mod OnceLemmas
pub mod LimitLemmas
