pub mod Completing
pub mod Fits
pub mod Numbers
pub mod Parts
