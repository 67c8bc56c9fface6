pub mod Family
pub mod Rows
pub mod Fitting
pub mod Telling
pub mod Meaning
