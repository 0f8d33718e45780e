pub mod Steps
pub mod Verdicts
pub mod Ahead
pub mod Parsers
pub mod Parts
pub mod Fields
pub mod Calls
