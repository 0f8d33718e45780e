pub mod Turning
pub mod Examples
