pub mod Numbering
pub mod Naming
pub mod PickedEntries
pub mod Recounting
pub mod SetUps
pub mod Claims
