pub mod Index
pub mod Examples
