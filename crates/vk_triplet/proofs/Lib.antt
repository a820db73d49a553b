mod FrontLemmas
mod SayLemmas
mod FindLemmas
mod TextLemmas
mod ReadLemmas
mod MarkLemmas
mod FileLemmas
