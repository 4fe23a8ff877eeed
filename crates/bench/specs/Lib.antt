pub mod Letters
pub mod Benches
pub mod Results
