pub mod TookIs
