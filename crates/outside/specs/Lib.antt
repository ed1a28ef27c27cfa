pub mod Tally
pub mod Causes
pub mod Memory
pub mod Told
pub mod Gates
pub mod Keeping
