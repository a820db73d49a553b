-- what is promised
pub mod Places
pub mod Documents
pub mod Looks
pub mod Readings
pub mod NewItems
pub mod Words
-- what functions, laws and examples say besides
pub mod Values
pub mod DocumentView
pub mod KeyOrders
pub mod FaultViews
pub mod Files
pub mod Standing
