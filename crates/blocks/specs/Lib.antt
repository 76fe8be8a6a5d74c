pub mod Field
pub mod Check
pub mod Header
pub mod Character
pub mod Openings
