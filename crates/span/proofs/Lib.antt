mod Parts
mod Pairs
mod Solutions
mod Limits
pub mod Opening
pub mod Dates
mod Rounds
