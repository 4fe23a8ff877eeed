pub mod Searching
pub mod Testing
pub mod Accepting
pub mod Walking
pub mod SettingUp
pub mod Answering
pub mod Worked
