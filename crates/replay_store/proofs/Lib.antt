pub mod Stamps
pub mod Found
pub mod Pairs
pub mod Ranks
pub mod Rising
pub mod Bits
pub mod Verdicts
pub mod Recalled
