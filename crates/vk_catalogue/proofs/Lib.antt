pub mod ShelfLemmas
pub mod GivenLemmas
pub mod SoundLemmas
