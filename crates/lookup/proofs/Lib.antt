pub mod Endings
pub mod Entries
pub mod Fields
pub mod Meanings
pub mod Theorems
pub mod Apart
