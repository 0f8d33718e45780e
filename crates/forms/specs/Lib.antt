pub mod Forms
pub mod Lines
pub mod Formed
