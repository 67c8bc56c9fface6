pub mod Protocols
pub mod Settings
pub mod Plain
pub mod Files
pub mod Idns
pub mod Distinct
pub mod Slave
pub mod Slaves
