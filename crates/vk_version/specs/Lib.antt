-- what is promised
pub mod Schemes
pub mod Texts
pub mod Readings
-- what functions, laws and examples say besides
pub mod Orders
pub mod Views
pub mod Steps
pub mod Parsed
pub mod AskViews
pub mod ClassWords
pub mod SameVersions
