pub mod Salvage
pub mod Places
pub mod Onward
