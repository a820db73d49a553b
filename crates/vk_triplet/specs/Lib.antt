-- what is promised
pub mod Lines
pub mod LineReadings
pub mod TripletReadings
pub mod Marks
pub mod Meanings
-- what functions, laws and examples say besides
pub mod Views
pub mod RowViews
pub mod FileLaws
