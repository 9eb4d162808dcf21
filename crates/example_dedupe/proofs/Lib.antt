pub mod Fronts
pub mod Filled
pub mod Places
