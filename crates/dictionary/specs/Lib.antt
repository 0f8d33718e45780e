pub mod Dictionary
pub mod Examples
pub mod Lines
pub mod Slots
pub mod Places
pub mod Marks
pub mod Pairs
pub mod Answers
