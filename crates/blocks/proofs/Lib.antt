pub mod Checks
pub mod Signed
pub mod Fields
pub mod HeaderBytes
pub mod KeptHeader
pub mod KeptFirst
pub mod Openings
