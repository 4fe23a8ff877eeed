mod Cutting
mod Ending
pub mod Lining
mod Numbers
mod Parting
mod Passing
pub mod Replaying
mod Spelling
