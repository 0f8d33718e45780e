pub mod Splits
pub mod Classes
pub mod Names
pub mod Prefixes
pub mod Lines
pub mod Stores
pub mod Answers
pub mod Determined
