pub mod Greatest
pub mod Numbering
pub mod Containing
pub mod Recounting
pub mod Finding
pub mod Retelling
