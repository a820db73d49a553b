-- what is promised
pub mod Names
pub mod FeatureViews
pub mod Paths
pub mod PathReading
pub mod Tokens
pub mod Printed
-- what functions, laws and examples say besides
pub mod Stops
pub mod PathTexts
pub mod PathHash
pub mod Parts
pub mod Decimals
pub mod Schedules
pub mod SharedTexts
pub mod ShortTexts
