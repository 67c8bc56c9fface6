-- Worked rows of the definitions, each computed: what is lost, and what was taken and accepted in the end.
use Rattle.std.proofs.Common.{◌≡◌, ℕ, ◌+◌, ◌==◌, if◌then◌else◌, Option, Some, None, List, [], ◌∷◌, ◌++◌, false, map, refl}
use Rattle.link_model.specs.Master.{InState}
use Rattle.link_model.specs.Slave.{Server}
use Rattle.link_model.specs.Link.{Link, Event, Fate, run, new_link}
use Rattle.link_model.specs.Frames.{Gram, Ask}
use Rattle.link_model.specs.Segment.{Member, RingFate, SegmentEvent, segment_run}

abbrev first_waiting : List ℕ → Option ℕ
first_waiting [] = None
first_waiting (m ∷ ms) = Some m

abbrev other_waiting : List ℕ → List ℕ
other_waiting [] = []
other_waiting (m ∷ ms) = ms

-- a server that answers mail n by n + 100, and mail 9 by two mails
abbrev answers : ℕ → List ℕ
answers n = if n == 9 then 109 ∷ (209 ∷ []) else (n + 100) ∷ []

abbrev echo : Server ℕ (List ℕ)
echo = record { take = λ s n. s ++ answers n; next = first_waiting; rest = other_waiting }

abbrev start : Link ℕ (List ℕ)
start = new_link []

-- one frame with its step of the processor
abbrev written : ℕ → Fate → List (Event ℕ (List ℕ)) → List (Event ℕ (List ℕ))
written n fate es = Event.Hold n ∷ (Event.Out fate ∷ (Event.Pdi ∷ es))

abbrev write : Fate → List (Event ℕ (List ℕ)) → List (Event ℕ (List ℕ))
write fate es = Event.Out fate ∷ (Event.Pdi ∷ es)

abbrev read : Fate → List (Event ℕ (List ℕ)) → List (Event ℕ (List ℕ))
read fate es = Event.In fate ∷ (Event.Pdi ∷ es)

-- a write not met: the same mail again, taken once
not_met : (run echo start (written 1 Fate.LostBefore (write Fate.Pass (read Fate.Pass [])))).accepted ≡ 101 ∷ []
not_met = refl

-- a write met and lost on the way back: its repetition is removed
met_and_lost : (let w = run echo start (written 1 Fate.LostBehind (write Fate.Pass (read Fate.Pass (read Fate.Pass [])))) in (w.taken ≡ 1 ∷ []) × (w.accepted ≡ 101 ∷ []) × (w.node.out.box ≡ None))
met_and_lost = (refl, refl, refl)

-- a read lost behind the slave, and before it: request, acknowledge, read again, accepted once
read_lost_behind : (let w = run echo start (written 1 Fate.Pass (read Fate.LostBehind (read Fate.Pass (read Fate.Pass (read Fate.Pass []))))) in (w.accepted ≡ 101 ∷ []) × (w.halves.inn.state ≡ InState.Clear) × (w.node.inn.box ≡ None))
read_lost_behind = (refl, refl, refl)

read_lost_before : (run echo start (written 1 Fate.Pass (read Fate.LostBefore (read Fate.Pass (read Fate.Pass (read Fate.Pass [])))))).accepted ≡ 101 ∷ []
read_lost_before = refl

-- the repeat request lost too
request_lost : (run echo start (written 1 Fate.Pass (read Fate.LostBehind (read Fate.LostBehind (read Fate.Pass (read Fate.Pass (read Fate.Pass []))))))).accepted ≡ 101 ∷ []
request_lost = refl

-- a newer mail waits: it is withdrawn, and comes behind the repeat with its own counter
newer_waits : (let w = run echo start (written 9 Fate.Pass (read Fate.LostBehind (read Fate.Pass (read Fate.Pass (read Fate.Pass (read Fate.Pass [])))))) in (w.accepted ≡ 109 ∷ (209 ∷ [])) × (w.halves.inn.last ≡ 2))
newer_waits = (refl, refl)

-- the counter wraps: mail 8 has counter 1 again
wraps : (let one = λ (n : ℕ) (es : List (Event ℕ (List ℕ))). written n Fate.Pass (read Fate.Pass es) in let w = run echo start (one 1 (one 2 (one 3 (one 4 (one 5 (one 6 (one 7 (one 8 [])))))))) in (w.node.out.last_taken ≡ 1) × (w.accepted ≡ 101 ∷ (102 ∷ (103 ∷ (104 ∷ (105 ∷ (106 ∷ (107 ∷ (108 ∷ [])))))))))
wraps = (refl, refl)

-- two slaves in one frame, datagrams in any order with a foreign one between them, lost behind the first slave
abbrev asks : ℕ → Ask ℕ → Gram ℕ
asks station ask = record { station = station; ask = ask; counter = 0; mail = None; acknowledge = false }

abbrev two : List (Member ℕ (List ℕ))
two = record { station = 4097; link = start } ∷ (record { station = 4098; link = start } ∷ [])

abbrev both_write : List (Gram ℕ)
both_write =
    asks 4098 (Ask.WriteMail (record { counter = 1; body = 2 })) ∷ (asks 4097 Ask.Other ∷ (asks 4097 (Ask.WriteMail (record { counter = 1; body = 1 })) ∷ []))

abbrev taken_each : List (Member ℕ (List ℕ)) → List (List ℕ)
taken_each ms = map (λ m. m.link.taken) ms

abbrev stepped : List (SegmentEvent ℕ (List ℕ)) → List (SegmentEvent ℕ (List ℕ))
stepped es = SegmentEvent.Step 0 ∷ (SegmentEvent.Step 1 ∷ es)

lost_between : (let ms = segment_run echo two (SegmentEvent.Wire ((0, 1) ∷ ((1, 2) ∷ [])) both_write (RingFate.Lost 1) ∷ stepped []) in taken_each ms ≡ (1 ∷ []) ∷ ([] ∷ []))
lost_between = refl

and_again : (let ms = segment_run echo two (SegmentEvent.Wire ((0, 1) ∷ ((1, 2) ∷ [])) both_write (RingFate.Lost 1) ∷ stepped (SegmentEvent.Wire [] both_write RingFate.Back ∷ stepped [])) in taken_each ms ≡ (1 ∷ []) ∷ ((2 ∷ []) ∷ []))
and_again = refl
