-- what functions, laws and examples say besides
pub mod Answers
pub mod Listing
pub mod MemSinks
pub mod MemTrees
pub mod Moving
pub mod Trees
