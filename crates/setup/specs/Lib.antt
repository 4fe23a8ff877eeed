pub mod Groups
pub mod Solutions
pub mod Reading
pub mod Parts
