-- Worked visits: a slave with nothing to say, behind a step, and one that waits with a mail.
use Rattle.std.proofs.Common.{◌≡◌, ℕ, false, true, Some, None, refl, arith}
use Rattle.std.specs.Prelude.{⊤}
use Rattle.plan_ring.specs.of_link_model.Link.{Link, Event, happens, new_link}
use Rattle.plan_ring.specs.of_link_model.Slave.{Server}
use Rattle.plan_ring.proofs.of_link_model.Law.{new_agrees}
use Rattle.plan_ring.specs.of_life_model.Visits.{Visit, visit_gain, visited}
use Rattle.plan_ring.specs.of_run_frames.Waits.{new_waits}
use Rattle.plan_ring.specs.of_segment_model.Ends.{Passing}
use Rattle.idle_slaves.specs.Visited.{visit_for}
use Rattle.idle_slaves.specs.Waiting.{Wanted, Memory, Coming, IsWaiting, IsSpent, link_by, memory_behind, visit_with}
use Rattle.idle_slaves.proofs.Waiting.{spent}

abbrev quiet : Server ℕ ⊤
quiet = record { take = λ s body. s; next = λ s. None; rest = λ s. s }

abbrev fresh : Memory
fresh = record { paused = false; turn = false }

-- as it is opened, and behind a step
abbrev opened : Link ℕ ⊤
opened = new_link tt

abbrev stepped : Link ℕ ⊤
stepped = happens quiet opened Event.Pdi

-- two reads of an empty mailbox 1
abbrev once : Link ℕ ⊤
once = visited quiet stepped Visit.Read

abbrev twice : Link ℕ ⊤
twice = visited quiet once Visit.Read

waits : IsWaiting quiet twice Wanted.Mails fresh (record { stepped = true; tries = 2 })
waits = IsWaiting.visits once Wanted.Mails fresh (record { stepped = true; tries = 1 }) Coming.Nothing
    (IsWaiting.visits stepped Wanted.Mails fresh (record { stepped = true; tries = 0 }) Coming.Nothing
    (IsWaiting.steps opened Wanted.Mails fresh new_waits (IsWaiting.new opened Wanted.Mails fresh (new_agrees tt) refl)) tt refl) tt refl

is_spent : IsSpent quiet twice
is_spent = (spent quiet twice Wanted.Mails fresh (record { stepped = true; tries = 2 }) waits (omega arith)).0

-- a mail that comes into hand is written, and that is no visit in vain
writes : visit_with quiet stepped Wanted.Mails fresh (Coming.Mail 7) ≡ Visit.Write
writes = refl

gains : visit_gain (link_by quiet stepped (Coming.Mail 7)) Visit.Write ≡ 1
gains = refl

-- a state service sees mailbox 0 empty at once
sees : visit_with quiet stepped Wanted.Mails fresh Coming.State ≡ Visit.Full
sees = refl

-- a mail that is passed on is written; then mailbox 0 is to be seen empty, in turn with mailbox 1, which is read from there on
sends : visit_for None (Some Passing.Waiting) fresh true ≡ Visit.Write
sends = refl

sees_boxed : visit_for None (Some Passing.Boxed) fresh false ≡ Visit.Full
sees_boxed = refl

reads_boxed : visit_for None (Some Passing.Boxed) (memory_behind fresh Visit.Full) false ≡ Visit.Read
reads_boxed = refl

reads_served : visit_for None (Some Passing.Served) fresh false ≡ Visit.Read
reads_served = refl
