pub mod Figures
pub mod Handed
pub mod Together
pub mod ByRecord
