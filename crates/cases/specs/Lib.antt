pub mod ChoiceCases
pub mod StoreCases
pub mod StreamCases
