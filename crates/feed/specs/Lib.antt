pub mod Feeding
pub mod Calls
pub mod Examples
