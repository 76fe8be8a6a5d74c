pub mod Moves
pub mod Downward
pub mod Upward
pub mod Puts
pub mod Written
pub mod Unmarks
pub mod Splices
pub mod Extends
