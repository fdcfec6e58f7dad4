pub mod Lists
pub mod Distinct
pub mod Climbs
pub mod Runs
pub mod Rises
pub mod Planning
pub mod Making
pub mod Criterion
pub mod Heights
pub mod Weights
pub mod Rounds
pub mod Trimming
pub mod Listing
pub mod Stepping
pub mod Meanings
pub mod Sharing
pub mod Designs
pub mod Edges
pub mod Laid
mod Bitsets
mod Deciding
mod Reading
mod Growing
mod Turns
mod Noting
mod Walking
mod Starting
mod Saturating
pub mod Sieving
pub mod Members
mod Compiled
mod Numbered
mod Carried
pub mod Kept
pub mod Stayers
mod Grown
mod Puts
mod Sets
mod Adding
mod Spelling
mod Serving
mod Pairs
pub mod Coded
pub mod Weighed
pub mod Nest
pub mod Ways
pub mod Answered
mod Deciders
mod Clearing
mod Judges
mod Places
mod Trails
