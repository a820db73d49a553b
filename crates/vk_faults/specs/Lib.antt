-- what functions, laws and examples say besides
pub mod Troubles
pub mod Met
pub mod Notes
