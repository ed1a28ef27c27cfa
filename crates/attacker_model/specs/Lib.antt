pub mod Derivation
pub mod Heights
pub mod Saturated
pub mod Knowledge
pub mod Taken
pub mod Decided
pub mod Digests
