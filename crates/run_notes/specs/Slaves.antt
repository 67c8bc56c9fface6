-- WHAT IS NOTED OF ALL SLAVES of a run: how it begins, what each event leaves of it, and the rows that it gives a book.
use Rattle.std.specs.Prelude.{◌≡◌, ℕ, zero, suc, map, ◌+◌, ◌==◌, nat_lt, if◌then◌else◌, List, [], ◌∷◌, ◌++◌, length, All, count_by, slice_get}
use Rattle.run_book.specs.of_segment_plan.declared.service.Service.{Service}
use Rattle.run_book.specs.of_segment_plan.declared.slave.SlaveSpec.{SlaveSpec}
use Rattle.run_book.specs.of_slave_node.Node.{Node}
use Rattle.run_book.specs.of_slave_server.declared.server.SlaveServer.{SlaveServer}
use Rattle.run_book.specs.Ports.{IsAtPort}
use Rattle.run_book.specs.declared.book.Book.{Book}
use Rattle.run_book.specs.declared.book.SlaveBook.{SlaveBook}
use Rattle.run_notes.specs.declared.notes.Notes.{Notes}
use Rattle.run_notes.specs.declared.standing.Log.{Log}
use Rattle.run_notes.specs.Notes.{new_notes, ended}
use Rattle.run_book.specs.of_master_node.declared.node.MasterNode.{MasterNode}
use Rattle.run_book.specs.of_master_node.Shows.{lived_of}
use Rattle.run_book.specs.of_master_node.Told.{HasLives}
use Rattle.run_book.specs.of_master_node.Wants.{gave_of, AllCounted}
use Rattle.run_frames.specs.of_life_runs.Led.{Leads}
use Rattle.run_frames.specs.of_frame_view.View.{Lens}
use Rattle.run_frames.specs.of_segment_ring.declared.wire.Fate.{Fate}
use Rattle.run_frames.specs.of_segment_ring.declared.wire.Fate.TheVariants.{Pass, Lost}

-- how many services the script has for a slave
abbrev pub scripted : List (ℕ × Service) → ℕ → ℕ
scripted services slave = count_by (λ (row : ℕ × Service). row.0 == slave) services

-- nothing happened yet at the slaves from a number on
abbrev pub first_notes : List (ℕ × Service) → ℕ → List SlaveSpec → List Notes
first_notes services number [] = []
first_notes services number (spec ∷ specs) = new_notes (scripted services number) ∷ first_notes services (number + 1) specs

-- the station of a slave and the length of its mailbox
abbrev pub home_of : SlaveSpec → ℕ × ℕ
home_of spec = (spec.station, spec.out_len)

-- the row of a slave, should the run end here
abbrev pub slave_row : ℕ → Node SlaveServer → Notes → SlaveBook
slave_row recover node n = record {
  node = node;
  begun = n.begun;
  answers = ended n;
  emergencies = n.emergencies;
  epochs = n.epochs;
  gave = n.gave;
  given_up = slice_get n.gave recover;
}

-- the rows of slaves, in ring order
abbrev pub slave_rows : ℕ → List (Node SlaveServer) → List Notes → List SlaveBook
slave_rows recover (node ∷ nodes) (n ∷ notes) = slave_row recover node n ∷ slave_rows recover nodes notes
slave_rows recover _ _ = []

-- the frames at which slaves were given up: by what is noted of them, by the rows of a book
abbrev pub gaves_noted : List Notes → List (List ℕ)
gaves_noted notes = map (λ (n : Notes). n.gave) notes

-- the same by the rows of a book
abbrev pub gaves_in : List SlaveBook → List (List ℕ)
gaves_in rows = map (λ (row : SlaveBook). row.gave) rows

-- what a step leaves of a book: its events at the switch stay at one of so many ports
pub record KeepsRest (ports : ℕ) (b b' : Book) : Type 0 where
  pub slaves : b'.slaves ≡ b.slaves
  pub grams : b'.grams ≡ b.grams
  pub replies : b'.replies ≡ b.replies
  pub serving : b'.serving ≡ b.serving
  pub at_port : All (IsAtPort ports) b.switch → All (IsAtPort ports) b'.switch

-- what the events of a step leave of a book
pub record SameFrames (ports : ℕ) (b b' : Book) : Type 0 where
  pub frames : b'.frames ≡ b.frames
  pub rest : KeepsRest ports b b'

-- the slaves and ports of a log stay as many
pub record SameSlaves (r r' : Log) : Type 0 where
  pub notes : length r'.notes ≡ length r.notes
  pub homes : r'.homes ≡ r.homes
  pub asked : r'.asked ≡ r.asked
  pub ports : r'.ports ≡ r.ports
  pub recover : r'.recover ≡ r.recover

-- the give-ups of each slave behind a frame that was lost: this frame more where it was given up more often than before
abbrev pub gaves_behind : ℕ → List (List ℕ) → List (List ℕ) → List (List ℕ)
gaves_behind frame (now ∷ nows) (old ∷ olds) = (if nat_lt (length old) (length now) then old ++ frame ∷ [] else old) ∷ gaves_behind frame nows olds
gaves_behind frame _ olds = olds

-- the same of the slave at a place alone
abbrev pub gave_at : ℕ → ℕ → List (List ℕ) → List (List ℕ) → List (List ℕ)
gave_at zero frame (now ∷ nows) (old ∷ olds) = (if nat_lt (length old) (length now) then old ++ frame ∷ [] else old) ∷ olds
gave_at (suc place) frame (now ∷ nows) (old ∷ olds) = old ∷ gave_at place frame nows olds
gave_at place frame _ olds = olds

-- what is so of the give-ups of all slaves, by their lives with this master, whatever is passed on to them
abbrev pub GavesAll : ℕ → MasterNode → (List (List ℕ) → Type 0) → Type 0
GavesAll recover m P = (lens : ℕ → Lens) (leads : List Leads) → HasLives lens recover m (map lived_of leads) → AllCounted recover leads → P (map gave_of leads)

-- where this frame was lost: of the slave at a place
abbrev pub GaveNext : ℕ → ℕ → ℕ → MasterNode → List Notes → List Notes → Type 0
GaveNext place frame recover m old new = GavesAll recover m (λ nows. gaves_noted new ≡ gave_at place frame nows (gaves_noted old))

-- and of all of them
abbrev pub GaveLost : ℕ → ℕ → MasterNode → List Notes → List Notes → Type 0
GaveLost frame recover m old new = GavesAll recover m (λ nows. gaves_noted new ≡ gaves_behind frame nows (gaves_noted old))

-- the give-ups that are noted behind a frame of this fate: those that the slaves have whose lives are with this master
abbrev pub GaveBy : Fate → ℕ → MasterNode → Log → Log → Type 0
GaveBy Pass frame m r r' = gaves_noted r'.notes ≡ gaves_noted r.notes
GaveBy (Lost after) frame m r r' = GaveLost frame r.recover m r.notes r'.notes
