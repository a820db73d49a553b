-- what is promised
pub mod Forms
pub mod Choices
pub mod Words
pub mod Texts
pub mod Names
pub mod Features
pub mod Versions
pub mod Paths
pub mod Lines
