pub mod Profile
pub mod Pass
