pub mod PlaceLemmas
pub mod ApartLemmas
