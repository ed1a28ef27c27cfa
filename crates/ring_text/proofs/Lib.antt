pub mod Naming
pub mod Parted
