-- The analysis, the report and the listing.
pub mod Sums
pub mod Places
pub mod Tallies
pub mod Keyed
pub mod Counting
pub mod Listings
