pub mod Reference
pub mod Worked
