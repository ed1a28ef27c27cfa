pub mod Trees
pub mod Codes
pub mod TreeOf
pub mod Falls
pub mod Lengths
pub mod Limits
pub mod SameBytes
pub mod Same
