mod OptionLemmas
mod ItemLemmas
mod NumberLemmas
mod RangeLemmas
pub mod ValueLemmas
mod WrittenLemmas
mod NewItemLemmas
mod DocumentLemmas
pub mod MovingLemmas
mod WordLemmas
pub mod SameLemmas
pub mod TellingLemmas
pub mod DocumentKeys
