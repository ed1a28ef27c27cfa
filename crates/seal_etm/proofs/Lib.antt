pub mod Blobs
pub mod Opens
pub mod Spelled
