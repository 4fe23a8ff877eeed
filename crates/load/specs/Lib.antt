pub mod TermFields
pub mod Loading
pub mod Entering
