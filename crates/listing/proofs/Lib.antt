pub mod Listed
pub mod Texts
