pub mod Values
pub mod Words
pub mod Tables
pub mod Notes
pub mod Shown
pub mod Examples
