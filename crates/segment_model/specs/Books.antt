-- The book of a run: the answer of each service of a slave, from its frames, and when all is done.
use Rattle.std.specs.Prelude.{◌≡◌, ℕ, zero, suc, Bool, Option, Some, None, List, [], ◌∷◌, ⊤}
use Rattle.exchange_model.specs.Exchange.{Exchange, Speech}
use Rattle.exchange_model.specs.Rows.{Row, services}
use Rattle.segment_model.specs.Slaves.{Slave}
use Rattle.segment_model.specs.Record.{Frame, first_end, news_from}
use Rattle.segment_model.specs.Ends.{Task, Outcome, ends}
use Rattle.segment_model.specs.Seats.{Side, rows_of}
use Rattle.segment_model.specs.Laws.{Rests, NothingInHand, IsSettled, WantsNothing}

-- the answer of a service: its outcome with the frame that completed it; in doubt, where it began and was not completed; or not sent
pub data Answer (R : Type 0) : Type 0 where
  Ended : Outcome R → ℕ → Answer R
  InDoubt : Answer R
  NotSent : Answer R

-- by what the record gives
abbrev pub answer_from : {R : Type 0} → Option (Outcome R × ℕ) → Answer R
answer_from None = Answer.InDoubt
answer_from (Some found) = Answer.Ended found.0 found.1

-- so many services that did not begin
abbrev pub not_sent : {R : Type 0} → ℕ → List (Answer R)
not_sent zero = []
not_sent (suc n) = Answer.NotSent ∷ not_sent n

-- the answers of rows, and behind them those of so many services that did not begin
abbrev pub answers_of : {M Q R : Type 0} → Speech M Q R → (M → Bool) → ℕ → List (Frame M) → List (Row M Q R) → ℕ → List (Answer R)
answers_of x more station fs [] left = not_sent left
answers_of x more station fs (r ∷ rs) left =
    answer_from (first_end (ends x more (Task.Mails r.service)) r.frame [] (news_from station r.frame fs)) ∷ answers_of x more station fs rs left

-- each of these has ended
abbrev pub AllEnded : {R : Type 0} → List (Answer R) → Type 0
AllEnded [] = ⊤
AllEnded (Answer.Ended outcome frame ∷ more) = AllEnded more
AllEnded (Answer.InDoubt ∷ more) = ⊥
AllEnded (Answer.NotSent ∷ more) = ⊥

-- ALL DONE for one slave: it is not given up, all its scripted services have begun, all its rows are carried out, and each has ended
pub record IsDone {V A M Q R : Type 0} (x : Exchange V A M Q R) (more : M → Bool) (fs : List (Frame M)) (scripted : List Q) (given_up : Option ℕ)
    (station : ℕ) (start : V) (d : Side M Q R) (n : Slave V M) : Type 0 where
  pub live : given_up ≡ None
  pub begun : services (rows_of d) ≡ scripted
  pub rests : Rests x fs station start d n
  pub ended : AllEnded (answers_of x.speech more station fs (rows_of d) 0)

-- of the services of a slave that began only the newest can be in doubt
abbrev pub PastEnded : {V A M Q R : Type 0} → Exchange V A M Q R → (M → Bool) → List (Frame M) → ℕ → V → Side M Q R → Slave V M → Type 0
PastEnded x more fs station start d n = AllEnded (answers_of x.speech more station fs d.past 0)

-- none of them is, where nothing is in hand
abbrev pub EndedIf : {V A M Q R : Type 0} → Exchange V A M Q R → (M → Bool) → List (Frame M) → ℕ → V → Side M Q R → Slave V M → Type 0
EndedIf x more fs station start d n = NothingInHand x.speech d d.now → AllEnded (answers_of x.speech more station fs (rows_of d) 0)

-- all is done of a slave that is settled, of which the master wants nothing, and of which all scripted services have begun
abbrev pub DoneIf : {V A M Q R : Type 0} → Exchange V A M Q R → (M → Bool) → (ℕ → List Q) → List (Frame M) → ℕ → V → Side M Q R → Slave V M → Type 0
DoneIf x more scripted fs station start d n =
    IsSettled n → WantsNothing x.speech d → services (rows_of d) ≡ scripted station → IsDone x more fs (scripted station) None station start d n
