pub mod Trees
pub mod Lists
pub mod SameBytes
pub mod SameTrees
