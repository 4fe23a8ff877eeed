pub mod TableState
pub mod Equalities
pub mod Pairs
pub mod Apart
pub mod Decisions
