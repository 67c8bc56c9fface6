-- THE ROWS OF MAILS in the book of a serving, beside those that its slaves' lives have.
use Rattle.std.specs.Prelude.{◌≡◌, ◌≤◌, ◌%◌, ℕ, Some, List, slice_get}
use Rattle.run_record.specs.of_frame_view.Shares.{AllBoth}
use Rattle.run_record.specs.of_exchange_model.Rows.{Row}
use Rattle.run_record.specs.of_link_mails.Body.{Body}
use Rattle.run_record.specs.of_master_duty.Reply.{Reply}
use Rattle.run_record.specs.of_master_hand.Spoken.{Asked, passed}
use Rattle.run_record.specs.of_run_book.declared.book.GramIn.{GramIn}
use Rattle.run_record.specs.of_run_book.declared.book.SlaveBook.{SlaveBook}
use Rattle.run_record.specs.of_run_notes.Packets.{mail_row, rows_with}
use Rattle.run_record.specs.of_served_places.Rows.{passed_rows}
use Rattle.run_record.specs.of_life_runs.Served.{Keyed, Serves}

-- A ROW OF THE BOOK IS THAT OF A LIFE: it began before the same frame, and its mail is the one with its number among all that were asked; the count has 32 bits
pub record IsRowOf (asked : List Keyed) (row : ℕ × ℕ) (r : Row Body Asked Reply) : Type 0 where
  pub frame : r.frame ≡ row.1
  pub place : ℕ
  pub number : place % 4294967296 ≡ row.0
  pub keyed : Keyed
  pub there : slice_get asked place ≡ Some keyed
  pub service : r.service ≡ passed keyed.mail

-- so it is of each row of a slave, in order, and the book has no other row of a mail
abbrev pub HasMails : Serves → SlaveBook → Type 0
HasMails w row = AllBoth (IsRowOf w.asked) (rows_with mail_row row.begun) (passed_rows w.lead.lived.life)

-- a row of the book began no earlier than this datagram was heard: no fewer frames had been sent
abbrev pub IsLateRow : List GramIn → ℕ → ℕ × ℕ → Type 0
IsLateRow gs number row = (g : GramIn) → slice_get gs number ≡ Some g → g.frame ≤ row.1

-- THE ROWS OF A SLAVE are those of these datagrams, in order, none before its datagram was heard
abbrev pub AreLate : List GramIn → List ℕ → SlaveBook → Type 0
AreLate gs came row = AllBoth (IsLateRow gs) came (rows_with mail_row row.begun)
