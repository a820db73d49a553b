mod CutLemmas
mod DigitLemmas
mod NumberLemmas
mod TailLemmas
mod WrittenLemmas
mod PieceLemmas
mod FaultLemmas
mod DateLemmas
mod DayLemmas
pub mod OrderLemmas
mod SameTextLemmas
pub mod TestLemmas
mod ApartLemmas
mod RefusedLemmas
mod WordLemmas
mod PortLemmas
