pub mod Column
pub mod Line
pub mod Summary
pub mod Listing
