-- what is promised
pub mod Causes
pub mod Reasons
pub mod Faults
pub mod Earlies
pub mod Items
pub mod Places
pub mod PlaceViews
pub mod Cuts
pub mod Showable
-- what functions say besides
pub mod Cycles
