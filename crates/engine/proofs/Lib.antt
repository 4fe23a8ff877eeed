pub mod Answering
pub mod Bounds
pub mod Codes
pub mod Completing
pub mod Fitting
pub mod Following
pub mod Lists
mod LowRanks
pub mod Ranks
pub mod Seats
pub mod Using
pub mod Laws
pub mod Moving
pub mod Allowing
pub mod Placing
pub mod EachPair
