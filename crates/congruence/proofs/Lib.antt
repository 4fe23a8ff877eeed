pub mod Interpreting
pub mod Merging
pub mod Closing
pub mod Exact
pub mod Arguments
