mod Placing
pub mod Walking
