-- what is promised
pub mod Sets
-- what functions, laws and examples say besides
pub mod Needs
pub mod Components
pub mod Peeling
pub mod Ways
pub mod Moves
pub mod Arranging
