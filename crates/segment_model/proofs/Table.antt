-- Worked rows of the table of completed services, each computed.
use Rattle.std.proofs.Common.{◌≡◌, ℕ, Bool, true, false, Option, Some, None, List, [], ◌∷◌, refl}
use Rattle.exchange_model.specs.Toy.{Mail, first, posted, held, total, noted, Service, sum, post, adder}
use Rattle.link_model.specs.Frames.{Ask}
use Rattle.link_model.specs.Segment.{RingFate}
use Rattle.segment_model.specs.Slaves.{Datagram, Address, Access}
use Rattle.segment_model.specs.Record.{Frame, News, first_end, counted_from}
use Rattle.segment_model.specs.Ends.{Task, Outcome, ends}

-- a held mail is a first part, so its reply goes on
abbrev goes_on : Mail → Bool
goes_on held = true
goes_on _ = false

abbrev told_by : Task Mail Service → List (List (News Mail)) → Option (Outcome ℕ × ℕ)
told_by task news = first_end (ends adder.speech goes_on task) 5 [] news

abbrev here : List (News Mail)
here = News.Told (posted 1) ∷ News.Written ∷ []

-- a service with a reply, over mails and an emission between them
sums : told_by (Task.Mails (sum 3)) ((News.Heard held ∷ []) ∷ (News.Heard (noted 1) ∷ []) ∷ (News.Heard (total 8) ∷ []) ∷ (News.Heard held ∷ []) ∷ []) ≡ Some (Outcome.Replied 8, 7)
sums = refl

-- a packet: the write of a mail of the row before is none of its own
posts : (told_by (Task.Mails (post 1)) ((News.Written ∷ []) ∷ (News.Told (posted 1) ∷ []) ∷ (News.Written ∷ []) ∷ []) ≡ Some (Outcome.Handed, 7)) × (told_by (Task.Mails (post 1)) ((News.Written ∷ []) ∷ (News.Told (posted 1) ∷ []) ∷ []) ≡ None)
posts = (refl, refl)

-- a state: reached; refused, with the first code, once the flag is gone; and neither as yet
states :
    (told_by (Task.State 4) ((News.Status 2 None ∷ []) ∷ (News.Status 4 None ∷ []) ∷ []) ≡ Some (Outcome.Reached, 6))
    × (told_by (Task.State 8) ((News.Status 2 (Some 17) ∷ []) ∷ (News.Status 2 (Some 18) ∷ []) ∷ (News.Status 2 None ∷ []) ∷ []) ≡ Some (Outcome.Refused 17, 7))
    × (told_by (Task.State 8) ((News.Status 2 (Some 17) ∷ []) ∷ []) ≡ None)
states = (refl, refl, refl)

-- a mail that is passed on: its last reply; none, once it was written, mailbox 0 was seen empty and then mailbox 1; an emission in that place;
-- and an empty read before mailbox 0 was seen empty ends nothing
passes :
    (told_by (Task.Passed (first 1)) (here ∷ (News.Heard held ∷ []) ∷ (News.NothingRead ∷ []) ∷ (News.Heard (total 2) ∷ []) ∷ []) ≡ Some (Outcome.Handed, 8))
    × (told_by (Task.Passed (first 1)) (here ∷ (News.NothingRead ∷ []) ∷ (News.BoxFull true ∷ []) ∷ (News.BoxFull false ∷ []) ∷ (News.NothingRead ∷ []) ∷ []) ≡ Some (Outcome.Handed, 9))
    × (told_by (Task.Passed (first 1)) (here ∷ (News.BoxFull false ∷ []) ∷ (News.Heard (noted 2) ∷ []) ∷ []) ≡ Some (Outcome.Handed, 7))
    × (told_by (Task.Passed (first 1)) (here ∷ (News.Heard (noted 2) ∷ []) ∷ (News.NothingRead ∷ []) ∷ []) ≡ None)
passes = (refl, refl, refl, refl)

-- at pace 3 an empty read behind a done one counts once the processor made a step, which it does behind frame 2
abbrev reads : ℕ → List (Datagram Mail)
reads counter = record {
  gram = record { station = 4097; ask = Ask.ReadMail; counter = counter; mail = None; acknowledge = false };
  address = Address.Station 4097;
  access = Access.Elsewhere;
  counter = 0;
  found = None;
} ∷ []

abbrev read : ℕ → Frame Mail
read counter = record { sent = reads 0; fate = RingFate.Back; back = reads counter }

slow : counted_from 4097 3 0 (read 0 ∷ read 1 ∷ read 0 ∷ read 0 ∷ []) ≡ (News.NothingRead ∷ []) ∷ [] ∷ [] ∷ (News.NothingRead ∷ []) ∷ []
slow = refl
