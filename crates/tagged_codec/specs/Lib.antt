pub mod Faults
pub mod Frames
pub mod Grammar
pub mod Reading
pub mod Relation
