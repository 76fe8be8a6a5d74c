mod Bytes
mod Joining
mod Parts
mod Records
pub mod Bounds
pub mod Checking
pub mod Passing
pub mod Added
pub mod Together
