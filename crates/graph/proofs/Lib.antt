pub mod Relaxing
pub mod Pigeonhole
pub mod Walks
pub mod Deciding
