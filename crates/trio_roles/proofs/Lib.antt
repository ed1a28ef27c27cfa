pub mod Rest
pub mod Families
pub mod Tickets
pub mod Growing
