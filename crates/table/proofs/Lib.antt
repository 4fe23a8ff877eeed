pub mod Merging
pub mod Below
pub mod Pairs
pub mod Equating
pub mod Opening
