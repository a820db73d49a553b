-- what is promised
pub mod Projects
pub mod Layouts
pub mod Roots
pub mod Configurations
pub mod TripletFiles
pub mod Overlays
pub mod Stores
pub mod Openings
-- what functions, laws and examples say besides
pub mod Views
pub mod Asked
pub mod Opened
pub mod OpeningViews
pub mod Laws
