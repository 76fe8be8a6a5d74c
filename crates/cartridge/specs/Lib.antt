pub mod Cartridge
