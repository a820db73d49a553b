-- what is promised
pub mod Kept
pub mod Readings
pub mod Within
pub mod Finds
-- what functions, laws and examples say besides
pub mod Notes
pub mod ReadFaults
pub mod Views
pub mod StopViews
pub mod StandingViews
