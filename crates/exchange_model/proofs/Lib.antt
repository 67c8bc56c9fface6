pub mod Lists
pub mod Words
pub mod Turns
pub mod Parts
pub mod Settles
pub mod Nows
pub mod Steps
pub mod Promises
pub mod Moments
pub mod Lifting
pub mod Lasts
pub mod Toys
pub mod ToyRun
pub mod SumLaw
pub mod Refusals
pub mod RefusingLaw
mod ToyLaw
