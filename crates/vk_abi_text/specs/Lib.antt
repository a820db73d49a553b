-- what is promised
pub mod Inputs
pub mod Lines
pub mod Rights
pub mod Same
pub mod Views
pub mod Gathered
pub mod Readings
-- what functions, laws and examples say besides
pub mod Parts
pub mod Puts
pub mod Forms
pub mod Adding
