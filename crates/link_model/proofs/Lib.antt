pub mod Lists
pub mod Outward
pub mod Inward
pub mod Law
pub mod Own
pub mod Wire
pub mod Segments
pub mod Gains
pub mod Application
pub mod Servers
pub mod Priors
pub mod Numbers
mod Rows
