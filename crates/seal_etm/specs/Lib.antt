pub mod Blobs
pub mod Hmac
pub mod Layout
