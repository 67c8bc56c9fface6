pub mod Performable
