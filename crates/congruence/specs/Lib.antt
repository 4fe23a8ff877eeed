pub mod Congruence
pub mod Entries
pub mod Classes
pub mod Closure
pub mod Claims
