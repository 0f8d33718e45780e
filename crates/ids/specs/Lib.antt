pub mod Clashes
pub mod Names
pub mod Ahead
pub mod Marks
