pub mod Turn
pub mod Mirror
pub mod MirrorBytes
pub mod Block
pub mod Columns
pub mod Quarters
