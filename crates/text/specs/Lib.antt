pub mod Wrote
pub mod Column
