pub mod Words
pub mod StampsP
pub mod NoncesP
pub mod PStates
