-- WHETHER AN EMPTY READ COUNTS for a mail that is passed on: as the record has it, frame by frame, and as a side knows it.
use Rattle.std.specs.Prelude.{◌≡◌, ℕ, suc, ◌%◌, ◌==◌, ◌<◌, ◌&&◌, not, Bool, true, if◌then◌else◌, Option, IfSome, List}
use Rattle.mailbox_master.specs.of_link_mails.Body.{Body}
use Rattle.master_duty.specs.of_segment_model.Record.{Frame, Kept, did_read, kept_after, nothing_kept}
use Rattle.master_duty.specs.of_segment_model.Slaves.{Datagram, grams}
use Rattle.frame_view.specs.of_life_model.Lives.{Stand}
use Rattle.master_side.specs.Passing.{counts_at}

-- behind the frame of this number, of which these datagrams came back, none where it was lost
abbrev pub counts_behind : ℕ → ℕ → ℕ → List (Datagram Body) → Bool → Bool
counts_behind station pace made back counts = if suc made % pace == 0 then true else counts && not (did_read station (grams back))

-- by how the master stood to the slave before that frame: until it is open each counts
abbrev pub counts_on : Stand → ℕ → ℕ → ℕ → List (Datagram Body) → Bool → Bool
counts_on (Stand.Opens o) station pace made back counts = true
counts_on Stand.Open station pace made back counts = counts_behind station pace made back counts
counts_on Stand.Gone station pace made back counts = true

-- and the record's counters behind it: those of a new epoch until then
abbrev pub kept_on : Stand → ℕ → Kept → Frame Body → Kept
kept_on (Stand.Opens o) station kept f = nothing_kept
kept_on Stand.Open station kept f = kept_after station kept f
kept_on Stand.Gone station kept f = nothing_kept

-- THE SIDE KNOWS IT before the frame of this number, by the frame of its last done read
pub record CountsAt (at : Option ℕ) (pace made : ℕ) (counts : Bool) : Type 0 where
  pub is : counts_at at pace made ≡ counts
  pub early : IfSome at (λ a. a < made)
