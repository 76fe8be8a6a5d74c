pub mod EitherOrder
pub mod Pairs
