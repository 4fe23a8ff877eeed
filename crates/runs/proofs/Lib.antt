pub mod Attending
pub mod Determined
pub mod Only
pub mod Runs
pub mod Serving
pub mod Truth
