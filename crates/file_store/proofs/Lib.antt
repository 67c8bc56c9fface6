pub mod Places
pub mod Chains
pub mod Steps
pub mod Views
