pub use Rattle.master_side.specs.of_al_state as of_al_state
pub use Rattle.master_side.specs.of_datagrams as of_datagrams
pub use Rattle.master_side.specs.of_frame_view as of_frame_view
pub use Rattle.master_side.specs.of_life_model as of_life_model
pub use Rattle.master_side.specs.of_link_mails as of_link_mails
pub use Rattle.master_side.specs.of_link_model as of_link_model
pub use Rattle.master_side.specs.of_mailbox_mail as of_mailbox_mail
pub use Rattle.master_side.specs.of_mailbox_master as of_mailbox_master
pub use Rattle.master_side.specs.of_master_duty as of_master_duty
pub use Rattle.master_side.specs as of_master_side
pub mod Under
pub mod Walks
pub mod Cursor
pub mod Stands
pub mod Passing
pub mod Made
pub mod Brings
pub mod Joins
pub mod Orders
pub mod Goes
pub mod Toured
pub mod Rooms
pub mod Sizes
pub mod Recalls
pub mod Behind
pub mod Stops
pub mod Replied
pub mod Counting
pub mod Frees
pub mod First
