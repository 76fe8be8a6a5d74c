pub mod Put
pub mod Change
