pub mod WritingBack
pub mod Lines
pub mod Listing
