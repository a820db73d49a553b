-- what is known of the host's files, and what a call does to it
pub mod Files
-- what a folder is listed as
pub mod Listings
