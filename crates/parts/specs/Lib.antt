pub mod Seats
pub mod First
pub mod Noting
pub mod Diagnoses
pub mod Lines
pub mod Told
