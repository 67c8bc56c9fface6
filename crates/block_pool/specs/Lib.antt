pub mod Blocks
pub mod Chained
pub mod Pool
pub mod Region
