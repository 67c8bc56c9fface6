pub use Rattle.gateway_stream.specs.of_ec_outside as of_ec_outside
pub use Rattle.run_report.specs.of_run_book as of_run_book
pub mod Audits
pub mod Ends
pub mod Files
pub mod Serving
pub mod Course
pub mod Causes
pub mod Complete
pub mod Calls
pub mod First
pub mod Asks
pub mod Linked
pub mod Objects
