pub mod Accepting
pub mod Digits
pub mod Inverting
pub mod Reading
pub mod Taking
pub mod Writing
