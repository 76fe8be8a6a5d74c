pub mod Calls
pub mod Book
pub mod Demands
pub mod Trials
pub mod Occurrences
pub mod Collection
pub mod Torn
