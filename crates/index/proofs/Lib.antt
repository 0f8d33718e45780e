pub mod Places
pub mod Finding
pub mod Building
pub mod Holes
pub mod Theorems
