pub mod HeaderLines
