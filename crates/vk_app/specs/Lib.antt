-- what is promised
pub mod Requests
pub mod Resolutions
pub mod Shown
pub mod Texts
pub mod Checks
pub mod Loads
pub mod Answers
pub mod Asked
pub mod Once
pub mod Runs
-- what functions, laws and examples say besides
pub mod Resolved
pub mod Ends
pub mod Checked
pub mod Folders
pub mod AnswerLaws
pub mod PlanReads
