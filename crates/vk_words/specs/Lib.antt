-- what is promised
pub mod Words
pub mod Options
pub mod Values
pub mod Arguments
pub mod Commands
pub mod FaultTexts
-- what functions say besides
pub mod WordViews
-- what the laws say
pub mod Laws
