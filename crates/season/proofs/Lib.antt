pub mod Sums
pub mod Merging
pub mod Tallies
pub mod Adding
pub mod Seasons
pub mod Numbers
