pub mod Search
pub mod Passes
pub mod Characters
pub mod Fonts
pub mod Profile
pub mod Meets
