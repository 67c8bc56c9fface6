pub use Rattle.served_places.proofs.of_exchange_model as of_exchange_model
pub use Rattle.served_places.proofs.of_life_runs as of_life_runs
pub use Rattle.packets_heard.proofs.of_master_node as of_master_node
pub use Rattle.run_notes.proofs as of_run_notes
pub use Rattle.served_places.proofs as of_served_places
pub mod Asking
pub mod Befores
pub mod Began
pub mod Budgets
pub mod Dated
pub mod Ends
pub mod Fits
pub mod FrameLists
pub mod Gones
pub mod Heads
pub mod Hearings
pub mod Knowing
pub mod Leads
pub mod Lefts
pub mod MailEvents
pub mod MailLives
pub mod MailNotes
pub mod Nexts
pub mod NoPackets
pub mod Noted
pub mod Numbered
pub mod Overs
pub mod PacketLives
pub mod PacketTurns
pub mod Plans
pub mod Replays
pub mod Rows
pub mod RunLives
pub mod RunStanding
pub mod RunTours
pub mod ServedBegan
pub mod ServedForwards
pub mod ServedGaves
pub mod ServedHanded
pub mod ServedNotes
pub mod ServedPlaced
pub mod ServedRecalls
pub mod ServedReports
pub mod ServedTold
pub mod ServedWritten
pub mod ServingAsks
pub mod Servings
pub mod Steps
pub mod SwitchFirst
pub mod Unasked
pub mod Underway
