pub mod Answers
pub mod Feeds
pub mod Lookups
pub mod Searches
pub mod Seasons
pub mod Verdicts
