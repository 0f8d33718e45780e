pub mod End
pub mod Entries
pub mod Fields
pub mod Meanings
pub mod Examples
pub mod Claims
