pub mod WalkBelow
pub mod SyncBelow
