pub use Rattle.gateway_run.proofs as of_gateway_run
pub mod Ahead
mod Alone
mod Asked
mod AskedKinds
pub mod Asks
pub mod BoundPorts
mod Bounded
pub mod Counts
mod EagerFrames
mod EagerMaps
mod EagerRests
mod EagerScripts
mod EagerWalk
mod Emergencies
mod Epochs
pub mod Few
mod Fewer
mod First
pub mod Frames
mod Given
mod LastEpochs
pub mod Left
pub mod Maps
pub mod News
mod Numbers
mod Overs
pub mod Places
mod Ports
mod Quiet
mod Ranks
pub mod Recalled
mod Reported
mod Rested
pub mod Rests
pub mod Rounds
mod Rows
pub mod Scripts
mod SentWhole
mod ServedBooks
pub mod ServedBounded
mod ServedFewer
mod ServedPorts
mod ServedReported
mod ServedVisits
pub mod Settled
pub mod Through
mod TouredAhead
pub mod TouredTours
pub mod Tours
mod Unopened
pub mod Unpassed
mod Unsent
mod Visits
mod Walk
mod Whole
mod Written
