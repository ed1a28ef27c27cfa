pub mod Messages
pub mod Offline
pub mod Online
pub mod Walks
pub mod Words
pub mod Commands
