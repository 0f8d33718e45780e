pub mod Alones
