pub mod Unmuted
pub mod Standing
pub mod Verdicts
pub mod Engines
pub mod Searching
