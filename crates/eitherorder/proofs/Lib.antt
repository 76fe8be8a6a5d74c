mod Changes
pub mod EitherOrder
pub mod Pairs
