-- what is promised
pub mod ChoiceViews
pub mod Clear
pub mod Conflicts
-- what functions, laws and examples say besides
pub mod Rows
pub mod Asks
pub mod Floors
pub mod Tops
pub mod Settling
