pub mod PrintedLemmas
