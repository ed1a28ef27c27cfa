pub mod Counts
pub mod Issued
