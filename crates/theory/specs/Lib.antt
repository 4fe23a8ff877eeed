pub mod Accepted
pub mod Combining
pub mod Models
pub mod Unsound
pub mod Sheets
