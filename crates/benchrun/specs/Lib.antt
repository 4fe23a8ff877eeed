pub mod Commands
pub mod Histories
pub mod Lines
pub mod Sessions
pub mod Transcripts
