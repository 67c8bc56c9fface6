-- THE EMERGENCIES OF A SLAVE, as a book has them.
use Rattle.std.specs.Prelude.{◌≡◌, List}
use Rattle.seen_slaves.specs.of_frame_view.Shares.{AllBoth}
use Rattle.gateway_run.specs.of_run_record.AcceptedMails.{Accepted, emergencies_of}
use Rattle.gateway_run.specs.of_run_book.declared.book.SlaveBook.{SlaveBook}

-- OF ONE SLAVE: its book reports just the emergencies among the mails that its life accepted, in order, each whole and with the frame whose return
-- brought it
abbrev pub HasEmergencies : List Accepted → SlaveBook → Type 0
HasEmergencies mails row = row.emergencies ≡ emergencies_of mails

-- of all of them
abbrev pub AllHaveEmergencies : List (List Accepted) → List SlaveBook → Type 0
AllHaveEmergencies mails rows = AllBoth HasEmergencies mails rows
