-- what is promised
pub mod Wording
pub mod Saying
pub mod Texts
pub mod Versions
-- what functions, laws and examples say besides
pub mod TextViews
