pub mod Blocks
pub mod Lines
pub mod Ends
