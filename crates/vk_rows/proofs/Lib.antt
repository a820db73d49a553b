mod Rooms
pub mod CacheLemmas
