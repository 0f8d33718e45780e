pub mod Cells
pub mod Register
pub mod Compare
pub mod Wells
pub mod Compared
pub mod Answers
pub mod Examples
