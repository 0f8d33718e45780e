pub mod Answers
pub mod Dictionaries
pub mod Contigs
pub mod Searches
pub mod Seasons
pub mod Verdicts
pub mod Pieces
pub mod Asking
