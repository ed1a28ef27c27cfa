pub mod Issued
pub mod Counts
