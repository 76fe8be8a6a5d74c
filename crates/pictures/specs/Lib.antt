pub mod Size
pub mod Runs
pub mod Passing
pub mod Picture
pub mod Dots
pub mod Rows
pub mod Drawing
