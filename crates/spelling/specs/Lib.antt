pub mod Odd
pub mod Examples
