pub mod Restarts
pub mod Eights
pub mod Onward
pub mod Seams
pub mod Fronts
pub mod Made
