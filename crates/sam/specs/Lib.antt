pub mod Tags
pub mod Contigs
pub mod Examples
pub mod Lines
pub mod Answers
pub mod Claims
