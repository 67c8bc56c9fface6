-- WHAT THE COUNTS OF A SLAVE'S EPOCHS ARE, by what happened to it up to the frame whose return showed it in Init.
use Rattle.std.specs.Prelude.{◌≡◌, ◌<◌, ℕ, zero, suc, ◌==◌, ◌&&◌, ◌||◌, not, nat_le, Bool, false, if◌then◌else◌, Option, Some, None, List, [], ◌∷◌, map, slice_get, ⊤}
use Rattle.run_book.specs.of_eoe_switch.declared.switching.SwitchEvent.{SwitchEvent}
use Rattle.run_book.specs.of_eoe_switch.declared.switching.SwitchEvent.TheVariants.{Arrive, Begun as Started, Down}
use Rattle.run_book.specs.of_segment_plan.declared.slave.SlaveSpec.{SlaveSpec}
use Rattle.run_book.specs.declared.book.Answer.{Answer}
use Rattle.run_book.specs.declared.book.Answer.TheVariants.{Replied, InDoubt, NotSent}
use Rattle.run_book.specs.declared.book.Begun.{Begun}
use Rattle.run_book.specs.declared.book.Emergency.{Emergency}
use Rattle.run_book.specs.declared.book.Epoch.{Epoch}
use Rattle.run_book.specs.declared.book.SlaveBook.{SlaveBook}
use Rattle.run_notes.specs.Notes.{count, first_row}
use Rattle.run_notes.specs.Rising.{Rises}

-- how many of these numbers are no greater than this
abbrev pub up_to : ℕ → List ℕ → ℕ
up_to most [] = 0
up_to most (n ∷ ns) = if nat_le n most then suc (up_to most ns) else up_to most ns

-- the frames of rows
abbrev pub begun_frames : List Begun → List ℕ
begun_frames bs = map (λ (b : Begun). b.frame) bs

-- and of emergencies
abbrev pub heard_frames : List Emergency → List ℕ
heard_frames es = map (λ (e : Emergency). e.frame) es

-- an answer was there by a frame
abbrev pub answered_by : ℕ → Answer → Bool
answered_by frame (Replied reply back) = nat_le back frame
answered_by frame InDoubt = false
answered_by frame NotSent = false

-- a slave was given up with a frame from the one up to the other
abbrev pub gave_within : ℕ → ℕ → List ℕ → Bool
gave_within from frame [] = false
gave_within from frame (g ∷ gs) = (nat_le from g && nat_le g frame) || gave_within from frame gs

-- a row was in hand over a frame: it had no answer by it, and its slave wasn't given up from the row's frame up to it
abbrev pub is_over : ℕ → List ℕ → ℕ → Answer → Bool
is_over frame gave from answer = not (answered_by frame answer) && not (gave_within from frame gave)

-- SO IT WAS OF THE NEWEST of these rows whose frame is no greater; where there is none it is as before
abbrev pub newest_over : ℕ → List ℕ → Bool → List Begun → List Answer → Bool
newest_over frame gave before [] answers = before
newest_over frame gave before (b ∷ bs) [] = before
newest_over frame gave before (b ∷ bs) (a ∷ as') = newest_over frame gave (if nat_le b.frame frame then is_over frame gave b.frame a else before) bs as'

-- what happened to a slave: the services that came into hand, with their answers, its give-ups, its emergencies, and how many frames had been sent when each of its
-- packets came in
pub record Past : Type 0 where
  pub begun : List Begun
  pub answers : List Answer
  pub gave : List ℕ
  pub emergencies : List Emergency
  pub packets : List ℕ

-- THE COUNTS OF AN EPOCH that began as this frame came back: the rows up to it, less the newest where that was in hand over it, since its service is then what returned the
-- slave to Init; the emergencies that this frame and those before brought; and the packets that had come in when it was back
pub record HasCounts (frame : ℕ) (past : Past) (e : Epoch) : Type 0 where
  pub row : e.row ≡ count (first_row (newest_over frame past.gave false past.begun past.answers) (up_to frame (begun_frames past.begun)))
  pub emergencies : e.emergencies ≡ count (up_to frame (heard_frames past.emergencies))
  pub packets : e.packets ≡ count (up_to (suc frame) past.packets)

-- nothing was before an epoch
pub record HasNothing (e : Epoch) : Type 0 where
  pub row : e.row ≡ 0
  pub emergencies : e.emergencies ≡ 0
  pub packets : e.packets ≡ 0

-- an epoch that begins with the slave, or with a frame below this
abbrev pub CountsBy : ℕ → Past → Option ℕ → Epoch → Type 0
CountsBy below past None e = HasNothing e
CountsBy below past (Some frame) e = (frame < below) × HasCounts frame past e

-- each of these
abbrev pub AreCounted : ℕ → Past → List Epoch → Type 0
AreCounted below past [] = ⊤
AreCounted below past (e ∷ es) = CountsBy below past e.cleared e × AreCounted below past es

-- ---- the packets of a slave

-- the slaves at the ports of the switch from port 1 on: those that serve EoE, in order
abbrev pub slaves_at : ℕ → List SlaveSpec → List ℕ
slaves_at at [] = []
slaves_at at (spec ∷ specs) = if spec.eoe then at ∷ slaves_at (suc at) specs else slaves_at (suc at) specs

-- this slave is there
abbrev pub is_there : Option ℕ → ℕ → Bool
is_there None slave = false
is_there (Some at) slave = at == slave

-- what comes in at a port comes from this slave; port 0 is the host's
abbrev pub is_from : List ℕ → ℕ → ℕ → Bool
is_from ports zero slave = false
is_from ports (suc port) slave = is_there (slice_get ports port) slave

-- a packet comes in from it
abbrev pub comes_from : List ℕ → ℕ → SwitchEvent → Bool
comes_from ports slave (Arrive port packet) = is_from ports port slave
comes_from ports slave (Started port) = false
comes_from ports slave (Down port) = false

-- the numbers of such events, where each has its number beside it
abbrev pub numbers_from : List ℕ → ℕ → List SwitchEvent → List ℕ → List ℕ
numbers_from ports slave [] ns = []
numbers_from ports slave (e ∷ es) [] = []
numbers_from ports slave (e ∷ es) (n ∷ ns) = if comes_from ports slave e then n ∷ numbers_from ports slave es ns else numbers_from ports slave es ns

-- ---- in a book

-- what happened to a slave by its row
abbrev pub row_past : List ℕ → SlaveBook → Past
row_past packets row = record { begun = row.begun; answers = row.answers; gave = row.gave; emergencies = row.emergencies; packets = packets }

-- THE FRAMES OF A SLAVE'S ROWS DON'T FALL, where so many were sent, AND ITS EPOCHS HAVE THEIR COUNTS, where its packets came in so
pub record IsDated (frames : ℕ) (packets : List ℕ) (row : SlaveBook) : Type 0 where
  pub rises : Rises 0 frames row.begun row.answers
  pub counted : AreCounted frames (row_past packets row) row.epochs

-- of each slave
abbrev pub AreDated : ℕ → (ℕ → List ℕ) → List SlaveBook → Type 0
AreDated frames packets rows = (k : ℕ) (row : SlaveBook) → slice_get rows k ≡ Some row → IsDated frames (packets k) row
