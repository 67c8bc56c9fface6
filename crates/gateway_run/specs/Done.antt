-- WHERE A SERVING LEAVES NOTHING each datagram that was queued at a slave is done, or was ended by a give-up of that slave; and each slave rests.
use Rattle.std.specs.Prelude.{◌≡◌, ◌⊎◌, ℕ, suc, Bool, true, false, Some, List, [], ◌∷◌, map, slice_get, ⊤}
use Rattle.gateway_core.specs.of_mailbox_mail.Mail.{error_of}
use Rattle.gateway_core.specs.of_mailbox_mail.declared.mail.Mail.{Mail}
use Rattle.run_record.specs.of_served_places.Rows.{AreAll}
use Rattle.run_record.specs.of_life_runs.Served.{Serves}
use Rattle.run_record.specs.of_master_node.Serving.{run_lead}
use Rattle.run_record.specs.of_frame_view.Shares.{AllBoth}
use Rattle.run_record.specs.of_life_runs.First.{lens_of}
use Rattle.run_record.specs.of_master_tour.Made.{is_in}
use Rattle.run_record.specs.of_master_node.Wants.{IsMailless, gave_of}
use Rattle.run_record.specs.of_frame_view.View.{Lens}
use Rattle.run_record.specs.of_life_model.Lives.{Stand}
use Rattle.run_record.specs.of_link_mails.Body.{Body}
use Rattle.run_record.specs.of_run_book.declared.book.Book.{Book}
use Rattle.run_record.specs.of_run_book.declared.book.GramIn.{GramIn}
use Rattle.run_record.specs.of_run_book.declared.book.SlaveBook.{SlaveBook}
use Rattle.run_record.specs.of_slave_server.Serving.{next_mail}
use Rattle.run_record.specs.of_slave_node.Node.{is_settled}
pub use Rattle.run_record.specs.Led.{LeavesNone}
use Rattle.run_record.specs.Led.{LeavesNoPacket}
use Rattle.run_record.specs.of_segment_plan.declared.plan.Scenario.{Scenario}
use Rattle.gateway_run.specs.Account.{Owing}
use Rattle.gateway_run.specs.Replies.{HasRow, mails_told}
use Rattle.gateway_run.specs.Rooms.{owed_for}
use Rattle.gateway_run.specs.Since.{GaveSince}

-- HOW A DATAGRAM ENDED THAT WAS PASSED ON, heard before this frame: it began and its row is done, with all its replies; it never began and has error 5, since its
-- slave was given up from that frame on; or it began and its slave was given up since, so it didn't begin in the slave's last epoch
pub data IsOver (w : Serves) (came : List ℕ) (done : Bool) (number heard : ℕ) (mails : List Mail) : Type 0 where
  whole :
      (asked : Mail) (told : List Body) → HasRow w came number asked told → AreAll told → mails ≡ mails_told told → done ≡ true → IsOver w came done number heard mails
  dropped : is_in number came ≡ false → GaveSince heard (gave_of w.lead) → mails ≡ error_of 5 ∷ [] → done ≡ false → IsOver w came done number heard mails
  cut :
      (asked : Mail) (told : List Body) (its : HasRow w came number asked told) → GaveSince its.row.frame (gave_of w.lead) → mails ≡ mails_told told → done ≡ false
      → IsOver w came done number heard mails

-- A DATAGRAM IS OVER at the slave at which it was queued, by the datagrams whose mails came into hand, those whose rows were done and what was owed
abbrev pub IsDone : List Serves → List (List ℕ) → List ℕ → List Owing → ℕ → GramIn → Type 0
IsDone serves came dones os number g =
    (slave : ℕ) → g.queued ≡ Some slave
    → (w : Serves) × (numbers : List ℕ) × (slice_get serves slave ≡ Some w) × (slice_get came slave ≡ Some numbers)
    × IsOver w numbers (is_in number dones) number g.frame (owed_for number os)

-- those heard from a number on
abbrev pub AllDone : List Serves → List (List ℕ) → List ℕ → List Owing → ℕ → List GramIn → Type 0
AllDone serves came dones os n [] = ⊤
AllDone serves came dones os n (g ∷ gs) = IsDone serves came dones os n g × AllDone serves came dones os (suc n) gs

-- NOTHING IS LEFT of a slave of a serving at the end: it was given up for good; or its master wants nothing of it, not even by a mail that is passed on, and the slave is settled
abbrev pub ServedRestsSo : (ℕ → Lens) → Serves → SlaveBook → Type 0
ServedRestsSo lens w row = (w.lead.lived.life.stand ≡ Stand.Gone) ⊎ (IsMailless lens w × (is_settled next_mail row.node ≡ true))

-- NOTHING IS LEFT TO DO in a serving, by its lives and its book: of no slave, and no packet
abbrev pub ServedRestAll : Scenario → List Serves → Book → Type 0
ServedRestAll plan ws book = AllBoth (ServedRestsSo (lens_of plan.slaves)) ws book.slaves × LeavesNoPacket plan (map run_lead ws) book.switch
