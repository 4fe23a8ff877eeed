pub mod Only
pub mod Taking
