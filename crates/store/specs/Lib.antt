pub mod Answer
pub mod Calls
pub mod Download
pub mod BadRuns
pub mod Putting
pub mod Drawing
pub mod Known
