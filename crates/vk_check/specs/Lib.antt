-- what is promised
pub mod Lines
pub mod Verdicts
pub mod Checked
pub mod Certificates
-- what functions, laws and examples say besides
pub mod Compared
pub mod Claims
pub mod Certifying
