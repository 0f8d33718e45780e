pub mod Sheet
pub mod Answers
pub mod Claims
pub mod Examples
