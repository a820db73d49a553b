-- what is promised
pub mod Tokens
pub mod Grammar
pub mod Reading
-- what functions, laws and examples say besides
pub mod Standing
pub mod Printing
pub mod Views
pub mod ReaderViews
