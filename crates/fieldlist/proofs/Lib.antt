pub mod Comparing
pub mod Numbering
pub mod Walking
