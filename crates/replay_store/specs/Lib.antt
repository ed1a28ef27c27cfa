pub mod Stamps
pub mod Stores
pub mod Held
pub mod Windows
pub mod Rising
pub mod Falls
