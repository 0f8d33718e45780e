pub mod Turns
pub mod Theorems
