pub mod Events
pub mod Heard
pub mod Judging
pub mod Law
pub mod Stages
