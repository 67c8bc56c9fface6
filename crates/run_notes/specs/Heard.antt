-- WHAT IS NOTED OF A SLAVE'S EMERGENCIES, beside the mails that its life accepted.
use Rattle.std.specs.Prelude.{◌≡◌, ℕ, suc, List, map}
use Rattle.run_book.specs.Heard.{Accepted, AllNoted, brought_of, heard_on, heard_to}
use Rattle.run_frames.specs.of_life_runs.Led.{Turn}
use Rattle.run_book.specs.of_master_node.Brought.{HasBrought}
use Rattle.run_book.specs.of_master_node.declared.node.MasterNode.{MasterNode}
use Rattle.run_book.specs.declared.book.Emergency.{Emergency}
use Rattle.run_book.specs.declared.book.SlaveBook.{SlaveBook}
use Rattle.run_notes.specs.declared.notes.Notes.{Notes}
use Rattle.run_notes.specs.declared.standing.Log.{Log}
use Rattle.run_frames.specs.of_segment_model.Slaves.{Datagram}
use Rattle.run_book.specs.of_link_mails.Body.{Body}
use Rattle.run_frames.specs.of_segment_ring.declared.wire.Fate.{Fate}
use Rattle.run_frames.specs.of_segment_ring.declared.wire.Fate.TheVariants.{Pass, Lost}

-- the emergencies of each slave: by what is noted of them, by the rows of a book
abbrev pub emergencies_noted : List Notes → List (List Emergency)
emergencies_noted notes = map (λ (n : Notes). n.emergencies) notes

-- by the rows of a book
abbrev pub emergencies_in : List SlaveBook → List (List Emergency)
emergencies_in rows = map (λ (row : SlaveBook). row.emergencies) rows

-- BEHIND A RETURN, whichever mails it brought of the slaves
abbrev pub HeardBack : MasterNode → (List Turn → List (Datagram Body) → List (List Accepted) → Type 0) → Type 0
HeardBack m P = (us : List Turn) (back : List (Datagram Body)) (hss : List (List Accepted)) → HasBrought m us back → P us back hss

-- one slave more, behind so many: the emergency that this frame brought of it is noted
abbrev pub HeardNext : ℕ → ℕ → MasterNode → List Notes → List Notes → Type 0
HeardNext frame k m old new = HeardBack m (λ us back hss. AllNoted (heard_to (brought_of frame back) k hss us) (emergencies_noted old) → AllNoted (heard_to (brought_of frame back) (suc k) hss us) (emergencies_noted new))

-- so many of them, the first ones
abbrev pub HeardTo : ℕ → ℕ → MasterNode → List Notes → List Notes → Type 0
HeardTo frame k m old new = HeardBack m (λ us back hss. AllNoted hss (emergencies_noted old) → AllNoted (heard_to (brought_of frame back) k hss us) (emergencies_noted new))

-- all of them
abbrev pub HeardAll : ℕ → MasterNode → List Notes → List Notes → Type 0
HeardAll frame m old new = HeardBack m (λ us back hss. AllNoted hss (emergencies_noted old) → AllNoted (heard_on (brought_of frame back) hss us) (emergencies_noted new))

-- by the frame's fate: where it was lost nothing is
abbrev pub HeardBy : Fate → ℕ → MasterNode → Log → Log → Type 0
HeardBy Pass frame m r r' = HeardAll frame m r.notes r'.notes
HeardBy (Lost after) frame m r r' = emergencies_noted r'.notes ≡ emergencies_noted r.notes
