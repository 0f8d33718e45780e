pub mod KeyKinds
pub mod Seen
pub mod Aheads
pub mod Markings
pub mod Clashes
