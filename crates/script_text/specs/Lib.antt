pub mod Faults
pub mod LineReading
pub mod Lines
pub mod Notation
pub mod Printing
pub mod Reading
pub mod Refusals
