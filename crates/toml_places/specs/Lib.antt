pub mod Document
pub mod Path
pub mod Lines
pub mod Cutting
pub mod Seeking
pub mod Items
pub mod Places
