-- what is promised
pub mod Packages
pub mod PackageViews
pub mod Contents
pub mod ContentViews
pub mod ContentLists
pub mod ContentsIn
pub mod Answers
pub mod Differences
-- what functions say besides
pub mod Places
pub mod Readings
