-- what is promised
pub mod Homes
pub mod Pages
pub mod Asked
-- what functions, laws and examples say besides
pub mod BaselineNotes
pub mod HomeViews
pub mod NoteViews
