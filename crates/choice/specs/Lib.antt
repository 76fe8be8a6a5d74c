pub mod Lists
pub mod Request
pub mod Candidates
pub mod Fields
pub mod Steps
pub mod Choosing
pub mod Right
pub mod Scores
