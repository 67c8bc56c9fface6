-- WHEN WHAT IS NOTED HAPPENED: between frames, while one is made, and behind it.
use Rattle.std.specs.Prelude.{◌≡◌, ◌<◌, ◌≤◌, ◌⊎◌, ℕ, suc, nat_lt, true, false, if◌then◌else◌, Some, List, [], ◌∷◌, length, slice_get, ⊤}
use Rattle.run_book.specs.of_master_node.Made.{AreOfMaking}
use Rattle.run_book.specs.of_master_node.declared.happened.Happening.{Happening}
use Rattle.run_book.specs.declared.book.Book.{Book}
use Rattle.run_notes.specs.Counted.{AreCounted, Past, heard_frames, is_from, newest_over, numbers_from}
use Rattle.run_notes.specs.Handed.{EachNotes}
use Rattle.run_notes.specs.Notes.{answers_doubted, awaits_nothing, count, received}
use Rattle.run_notes.specs.Rising.{RisesTo}
use Rattle.run_notes.specs.declared.notes.Notes.{Notes}
use Rattle.run_notes.specs.declared.standing.Log.{Log}

-- a moment of a run: the rows so far have frames below this, what came back or was lost has, and what began an epoch
pub record Time : Type 0 where
  pub rows : ℕ
  pub back : ℕ
  pub epochs : ℕ

-- so many frames were sent, and the next isn't begun
abbrev pub between : ℕ → Time
between sent = record { rows = sent; back = sent; epochs = sent }

-- this frame is made
abbrev pub making : ℕ → Time
making frame = record { rows = suc frame; back = frame; epochs = frame }

-- it is over, and no slave was seen to return to Init by it yet
abbrev pub behind : ℕ → Time
behind frame = record { rows = suc frame; back = suc frame; epochs = frame }

-- each number is below this
abbrev pub AllBelow : ℕ → List ℕ → Type 0
AllBelow high [] = ⊤
AllBelow high (n ∷ ns) = (n < high) × AllBelow high ns

-- what happened to a slave as it is noted; the service in hand is in doubt
abbrev pub notes_past : List ℕ → Notes → Past
notes_past packets n = record { begun = n.begun; answers = answers_doubted n; gave = n.gave; emergencies = n.emergencies; packets = packets }

-- WHAT IS NOTED OF A SLAVE AT A MOMENT: the frames of its rows don't fall; the newest is in hand or not, as its answer and the give-ups say; and its epochs have their counts
pub record IsTimed (t : Time) (packets : List ℕ) (n : Notes) : Type 0 where
  pub aligned : length n.begun ≡ length (answers_doubted n)
  pub awaited : awaits_nothing n.awaited ≡ false → n.in_hand ≡ true
  pub rises : RisesTo 0 t.rows t.back n.begun (answers_doubted n)
  pub gave : AllBelow t.back n.gave
  pub heard : AllBelow t.back (heard_frames n.emergencies)
  pub numbers : AllBelow (suc t.back) packets
  pub many : n.packets ≡ count (length packets)
  pub hand : newest_over t.epochs n.gave false n.begun (answers_doubted n) ≡ n.in_hand
  pub counted : AreCounted t.epochs (notes_past packets n) n.epochs

-- it goes from one moment to another, whichever packets came in
abbrev pub Goes : Time → Time → Notes → Notes → Type 0
Goes from to n n' = (packets : List ℕ) → IsTimed from packets n → IsTimed to packets n'

-- of each slave at its own moment
abbrev pub AllTimed : (ℕ → Time) → (ℕ → List ℕ) → List Notes → Type 0
AllTimed times packets notes = (k : ℕ) (n : Notes) → slice_get notes k ≡ Some n → IsTimed (times k) (packets k) n

-- WHERE NO PACKET COMES IN, they go from these moments to those
abbrev pub TimeGoes : (ℕ → Time) → (ℕ → Time) → List Notes → List Notes → Type 0
TimeGoes from to old new = (packets : ℕ → List ℕ) → AllTimed from packets old → AllTimed to packets new

-- or stay at one
abbrev pub KeepsTime : Time → List Notes → List Notes → Type 0
KeepsTime t old new = TimeGoes (λ k. t) (λ k. t) old new

-- so many slaves were seen behind this frame, and the others weren't yet
abbrev pub seen_to : ℕ → ℕ → ℕ → Time
seen_to frame place k = if nat_lt k place then between (suc frame) else behind frame

-- BEHIND A FRAME all of them are
abbrev pub GoesBehind : ℕ → List Notes → List Notes → Type 0
GoesBehind frame old new = TimeGoes (λ k. behind frame) (λ k. between (suc frame)) old new

-- ---- where packets come in

-- of the slave at this port
abbrev pub ReceivesAt : List ℕ → ℕ → List Notes → List Notes → Type 0
ReceivesAt ports port old new = EachNotes (λ k n n'. n' ≡ (if is_from ports port k then received n else n)) old new

-- WHAT IS NOTED GOES WITH A BOOK at a moment: its packets are those that came in from the slaves at these ports, as the book has them
pub record IsTimedBy (t : Time) (ports : List ℕ) (b : Book) (notes : List Notes) : Type 0 where
  pub many : length b.switched ≡ length b.switch
  pub timed : AllTimed (λ k. t) (λ k. numbers_from ports k b.switch b.switched) notes

-- what happened at the switch when so many frames had been sent may be noted: while a frame is made none comes in from a slave
abbrev pub MayHappen : Time → ℕ → List Happening → Type 0
MayHappen t sent rows = (sent ≤ t.back) × (AreOfMaking rows ⊎ (t.epochs < sent))

-- AND GOES ON WITH IT as that is noted
abbrev pub TimesGo : Time → Time → ℕ → List Happening → Book → Log → Book → Log → Type 0
TimesGo from to sent rows b r b' r' = MayHappen from sent rows → IsTimedBy from r.ports b r.notes → IsTimedBy to r.ports b' r'.notes

-- or stays at one moment
abbrev pub TimesStay : Time → ℕ → List Happening → Book → Log → Book → Log → Type 0
TimesStay t sent rows b r b' r' = TimesGo t t sent rows b r b' r'

-- BEHIND A FRAME all slaves are seen
abbrev pub TimesBehind : ℕ → ℕ → List Happening → Book → Log → Book → Log → Type 0
TimesBehind frame sent rows b r b' r' = TimesGo (behind frame) (between (suc frame)) sent rows b r b' r'
