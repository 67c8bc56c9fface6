-- Of the services of a slave that began only the newest can be in doubt.
use Rattle.std.proofs.Common.{◌≡◌, ◌⊎◌, inl, inr, ℕ, Bool, true, false, is_some, Option, Some, None, List, [], ◌∷◌, ◌++◌, refl, ap, sym, ◌∙◌}
use Rattle.exchange_model.specs.Exchange.{Exchange, IsLawful}
use Rattle.exchange_model.specs.Rows.{Row}
use Rattle.segment_model.specs.Record.{Frame, first_end, news_from}
use Rattle.segment_model.specs.Ends.{Task, Outcome, ends}
use Rattle.segment_model.specs.Seats.{Side, Seat, newest}
use Rattle.segment_model.specs.Laws.{EachSeat, SeatRests, SeatPromised, IsAnswered, AllAnswered, IsHanded, AllHanded, NowHanded, HandedBy, NothingInHand, as_outcome}
use Rattle.segment_model.specs.Books.{Answer, answer_from, answers_of, AllEnded, PastEnded, EndedIf, DoneIf}
use Rattle.segment_model.proofs.Overs.{over_parts}
use Rattle.segment_model.proofs.Answers.{AllClosed}
use Rattle.segment_model.proofs.Kept.{Records}

ended_first : {R : Type 0} (found : Option (Outcome R × ℕ)) (more : List (Answer R)) → is_some found ≡ true → AllEnded more → AllEnded (answer_from found ∷ more)
ended_first None more e h = absurd (let bad : false ≡ true = e in cc)
ended_first (Some o) more e h = h

module _ {V A M Q R : Type 0} (x : Exchange V A M Q R) (law : IsLawful x) where
  -- a row that is over has ended
  pub row_ended : (more : M → Bool) (station : ℕ) (fs : List (Frame M)) (r : Row M Q R) → IsAnswered x.speech more station fs r → IsHanded x.speech more station fs r true → ((answer : R × ℕ) × (r.answer ≡ Some answer)) ⊎ (x.speech.handed r.service ≡ true) →
      is_some (first_end (ends x.speech more (Task.Mails r.service)) r.frame [] (news_from station r.frame fs)) ≡ true
  row_ended more station fs r answered handed over = go (x.speech.handed r.service) refl over
    where
      go : (b : Bool) → x.speech.handed r.service ≡ b → ((answer : R × ℕ) × (r.answer ≡ Some answer)) ⊎ (x.speech.handed r.service ≡ true) → is_some (first_end (ends x.speech more (Task.Mails r.service)) r.frame [] (news_from station r.frame fs)) ≡ true
      go true h o = handed h
      go false h (inl a) = ap is_some (sym (answered.replied h)) ∙ ap (λ b. is_some (as_outcome b)) a.1
      go false h (inr p) = absurd (let bad : false ≡ true = sym h ∙ p in cc)

  rows_ended : (more : M → Bool) (station : ℕ) (fs : List (Frame M)) (past : List (Row M Q R)) (rest : List (Row M Q R)) → AllAnswered x.speech more station fs (past ++ rest) → AllHanded x.speech more station fs past → AllClosed x law station fs past →
      AllEnded (answers_of x.speech more station fs rest 0) → AllEnded (answers_of x.speech more station fs (past ++ rest) 0)
  rows_ended more station fs [] rest a h c e = e
  rows_ended more station fs (r ∷ rs) rest a h c e =
      ended_first (first_end (ends x.speech more (Task.Mails r.service)) r.frame [] (news_from station r.frame fs)) (answers_of x.speech more station fs (rs ++ rest) 0)
      (row_ended more station fs r a.0 h.0 c.0.over) (rows_ended more station fs rs rest a.1 h.1 c.1 e)

  pub behind : (more : M → Bool) (station : ℕ) (fs : List (Frame M)) (past rest : List (Row M Q R)) → AllAnswered x.speech more station fs (past ++ rest) → AllAnswered x.speech more station fs rest
  behind more station fs [] rest a = a
  behind more station fs (r ∷ rs) rest a = behind more station fs rs rest a.1

  past_ended : (more : M → Bool) (station : ℕ) (fs : List (Frame M)) (past : List (Row M Q R)) → AllAnswered x.speech more station fs past → AllHanded x.speech more station fs past → AllClosed x law station fs past → AllEnded (answers_of x.speech more station fs past 0)
  past_ended more station fs [] a h c = tt
  past_ended more station fs (r ∷ rs) a h c =
      ended_first (first_end (ends x.speech more (Task.Mails r.service)) r.frame [] (news_from station r.frame fs)) (answers_of x.speech more station fs rs 0) (row_ended more station fs r a.0 h.0 c.0.over) (past_ended more station fs rs a.1 h.1 c.1)

  prior : (more : M → Bool) (station : ℕ) (fs : List (Frame M)) (past rest : List (Row M Q R)) → AllAnswered x.speech more station fs (past ++ rest) → AllAnswered x.speech more station fs past
  prior more station fs [] rest a = tt
  prior more station fs (r ∷ rs) rest a = (a.0, prior more station fs rs rest a.1)

  now_ended : (more : M → Bool) (station : ℕ) (fs : List (Frame M)) (d : Side M Q R) (now : Option (Row M Q R)) → AllAnswered x.speech more station fs (newest now) → NowHanded x.speech more station fs d now → NothingInHand x.speech d now →
      AllEnded (answers_of x.speech more station fs (newest now) 0)
  now_ended more station fs d None a h n = tt
  now_ended more station fs d (Some r) a h n =
      let over : ((answer : R × ℕ) × (r.answer ≡ Some answer)) ⊎ (x.speech.handed r.service ≡ true) = elim (over_parts x d.halves.out.holding d.fresh r n).1 [ inl p ↦ inr p.0 | inr p ↦ inl p.0 ] in
      ended_first (first_end (ends x.speech more (Task.Mails r.service)) r.frame [] (news_from station r.frame fs)) [] (row_ended more station fs r a.0 (λ posts. h posts ∙ n) over) tt

  pub each_ended : (more : M → Bool) (fs : List (Frame M)) (ss : List (Seat V M Q R)) → EachSeat (Records x law fs) ss → EachSeat (SeatPromised x more fs) ss → EachSeat (λ s. HandedBy x more fs s.station s.start s.side s.slave) ss →
      EachSeat (λ s. PastEnded x more fs s.station s.start s.side s.slave) ss
  each_ended more fs [] k a h = tt
  each_ended more fs (s ∷ ss) k a h =
      (past_ended more s.station fs s.side.past (prior more s.station fs s.side.past (newest s.side.now) a.0.answers) h.0.past k.0.listens.past, each_ended more fs ss k.1 a.1 h.1)

  pub each_ended_if : (more : M → Bool) (fs : List (Frame M)) (ss : List (Seat V M Q R)) → EachSeat (Records x law fs) ss → EachSeat (SeatPromised x more fs) ss → EachSeat (λ s. HandedBy x more fs s.station s.start s.side s.slave) ss →
      EachSeat (λ s. EndedIf x more fs s.station s.start s.side s.slave) ss
  each_ended_if more fs [] k a h = tt
  each_ended_if more fs (s ∷ ss) k a h =
      ((λ n. rows_ended more s.station fs s.side.past (newest s.side.now) a.0.answers h.0.past k.0.listens.past (now_ended more s.station fs s.side s.side.now (behind more s.station fs s.side.past (newest s.side.now) a.0.answers) h.0.now n)), each_ended_if more fs ss k.1 a.1 h.1)

  pub each_done : (more : M → Bool) (scripted : ℕ → List Q) (fs : List (Frame M)) (ss : List (Seat V M Q R)) → EachSeat (SeatRests x fs) ss → EachSeat (λ s. EndedIf x more fs s.station s.start s.side s.slave) ss →
      EachSeat (λ s. DoneIf x more scripted fs s.station s.start s.side s.slave) ss
  each_done more scripted fs [] r e = tt
  each_done more scripted fs (s ∷ ss) r e =
      ((λ settled wants begun. record { live = refl; begun = begun; rests = r.0 settled wants; ended = e.0 wants.nothing }), each_done more scripted fs ss r.1 e.1)
