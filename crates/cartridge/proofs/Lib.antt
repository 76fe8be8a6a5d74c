pub mod Cartridge
pub mod Stands
