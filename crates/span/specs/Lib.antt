pub mod SpanState
pub mod Constraints
pub mod Dating
pub mod Decisions
pub mod Lists
