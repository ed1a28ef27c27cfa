pub mod Members
pub mod Values
pub mod KeyRings
pub mod Rings
pub mod Faults
