pub mod Items
pub mod Limits
pub mod Stepped
pub mod Texts
pub mod Draws
pub mod NoteLists
pub mod Ordering
pub mod Phases
