-- Of the services that came into hand each but the newest has its outcome by the record, of a frame before the next one came into hand.
use Rattle.std.proofs.Common.{◌≡◌, ℕ, ◌<◌, ◌≤◌, ◌&&◌, Bool, true, false, not, ◌==◌, Option, Some, None, List, [], ◌∷◌, ◌++◌, length, refl, ap, sym, ◌∙◌, subst, arith, length-append, if◌then◌else◌}
use Rattle.std.specs.Prelude.{⊤}
use Rattle.std.proofs.lemmas.Bool.{and_parts}
use Rattle.segment_model.specs.of_exchange_model.Exchange.{Exchange}
use Rattle.segment_model.specs.of_exchange_model.Rows.{answer_after}
use Rattle.segment_model.specs.Slaves.{Datagram}
use Rattle.segment_model.specs.Record.{Frame, is_for, first_end, joined, news_from, frame_news}
use Rattle.segment_model.specs.Ends.{Outcome, ends}
use Rattle.segment_model.specs.Seats.{Side}
use Rattle.segment_model.proofs.Answers.{kept_of, news_from-none, outcome-push}
use Rattle.state_model.specs.Stated.{Service}
use Rattle.state_model.specs.Accounts.{Started, Duty, Account, Pick, Progress, is_free, is_acknowledged, starts, state_begins, account_begins, account_next, account_by, account_met, account_back, access_done}
use Rattle.state_model.specs.Promise.{task_of, outcome_of, AllRise, AllEnded, but_last}

-- a choice ends no state service
pub over_next : {V A M Q R : Type 0} (x : Exchange V A M Q R) (acknowledged : Q → Bool) (frame : ℕ) (d : Side M Q R) (a : Account Q R) (p : Pick Q) → (account_next x.speech acknowledged frame d a p).over ≡ a.over
over_next {Q = Q} {R = R} x acknowledged frame d a p = go a.hand p.begin
  where
    either : (b : Bool) (c : Account Q R) → c.over ≡ a.over → (if b then c else a).over ≡ a.over
    either true c e = e
    either false c e = refl

    go : (hand : Option Duty) (wish : Option (Service Q)) → (account_begins x.speech acknowledged frame d a hand wish).over ≡ a.over
    go hand None = refl
    go (Some duty) (Some wish) = refl
    go None (Some (Service.Mails q)) = either (x.speech.valid q && is_free x.speech d d.now) (record a { started = starts a (Service.Mails q) frame }) refl
    go None (Some (Service.State target)) = either (is_free x.speech d d.now && is_acknowledged x.speech acknowledged d d.now) (state_begins a target frame) refl

-- what a frame brought back starts nothing
started_by : {Q R : Type 0} (frame : ℕ) (a : Account Q R) (duty : Duty) (p : Progress R) → (account_by frame a duty p).started ≡ a.started
started_by frame a duty (Progress.On stage) = refl
started_by frame a duty (Progress.Over answer) = refl

started_met : {M Q R : Type 0} (station frame : ℕ) (a : Account Q R) (hand : Option Duty) (d : Datagram M) → (account_met station frame a hand d).started ≡ a.started
started_met station frame a None d = refl
started_met {Q = Q} {R = R} station frame a (Some duty) d = go (is_for station d.address && not (d.counter == 0)) (account_by frame a duty (access_done duty.target duty.stage d.access d.found)) (started_by frame a duty (access_done {R = R} duty.target duty.stage d.access d.found))
  where
    go : (b : Bool) (c : Account Q R) → c.started ≡ a.started → (if b then c else a).started ≡ a.started
    go true c e = e
    go false c e = refl

pub started_back : {M Q R : Type 0} (station frame : ℕ) (a : Account Q R) (ds : List (Datagram M)) → (account_back station frame a ds).started ≡ a.started
started_back station frame a [] = refl
started_back station frame a (d ∷ ds) = started_back station frame (account_met station frame a a.hand d) ds ∙ started_met station frame a a.hand d

module _ {V A M Q R : Type 0} (x : Exchange V A M Q R) (more : M → Bool) (station : ℕ) where
  -- an outcome is there
  abbrev pub HasOutcome : List (Frame M) → Started Q → Type 0
  HasOutcome fs r = (o : Outcome R × ℕ) × (outcome_of x.speech more station fs r ≡ Some o)

  -- a service before another, which came into hand before the frame with this number
  pub record IsEnded (fs : List (Frame M)) (r : Started Q) (next : ℕ) : Type 0 where
    pub begun : r.frame ≤ length fs
    pub has : HasOutcome fs r
    pub below : has.0.1 < next

  -- the newest
  pub record IsNewest (fs : List (Frame M)) (r : Started Q) : Type 0 where
    pub begun : r.frame ≤ length fs
    pub below : (o : Outcome R × ℕ) → outcome_of x.speech more station fs r ≡ Some o → o.1 < length fs

  -- THE INVARIANT of an account
  abbrev pub Completed : List (Frame M) → List (Started Q) → Type 0
  Completed fs [] = ⊤
  Completed fs (r ∷ []) = IsNewest fs r
  Completed fs (r ∷ (s ∷ rs)) = IsEnded fs r s.frame × Completed fs (s ∷ rs)

  -- the newest is over, where there is one
  abbrev pub LastOver : List (Frame M) → List (Started Q) → Type 0
  LastOver fs [] = ⊤
  LastOver fs (r ∷ []) = HasOutcome fs r
  LastOver fs (r ∷ (s ∷ rs)) = LastOver fs (s ∷ rs)

  pub last_over : (fs : List (Frame M)) (rs : List (Started Q)) (r : Started Q) → HasOutcome fs r → LastOver fs (rs ++ r ∷ [])
  last_over fs [] r h = h
  last_over fs (s ∷ []) r h = h
  last_over fs (s ∷ (t ∷ rs)) r h = last_over fs (t ∷ rs) r h

  -- what the promise has of it
  pub completed_rises : (fs : List (Frame M)) (rs : List (Started Q)) → Completed fs rs → AllRise x.speech more station fs rs (length fs)
  completed_rises fs [] c = tt
  completed_rises fs (r ∷ []) c = (c.below, tt)
  completed_rises fs (r ∷ (s ∷ rs)) c = (early, completed_rises fs (s ∷ rs) c.1)
    where
      early : (o : Outcome R × ℕ) → outcome_of x.speech more station fs r ≡ Some o → o.1 < s.frame
      early o e =
          let found : Some c.0.has.0 ≡ Some o = sym c.0.has.1 ∙ e in
          let same : c.0.has.0 ≡ o = cc in
          subst (λ p. p.1 < s.frame) same c.0.below

  pub completed_ended : (fs : List (Frame M)) (rs : List (Started Q)) → Completed fs rs → AllEnded x.speech more station fs (but_last rs)
  completed_ended fs [] c = tt
  completed_ended fs (r ∷ []) c = tt
  completed_ended fs (r ∷ (s ∷ rs)) c = (c.0.has, completed_ended fs (s ∷ rs) c.1)

  pub all_ended : (fs : List (Frame M)) (rs : List (Started Q)) → Completed fs rs → LastOver fs rs → AllEnded x.speech more station fs rs
  all_ended fs [] c l = tt
  all_ended fs (r ∷ []) c l = (l, tt)
  all_ended fs (r ∷ (s ∷ rs)) c l = (c.0.has, all_ended fs (s ∷ rs) c.1 l)

  -- ONE FRAME MORE
  found : List (Frame M) → Frame M → Started Q → Option (Outcome R)
  found fs f r = ends x.speech more (task_of r.service) (joined (news_from station r.frame fs) ++ frame_news station (kept_of station fs) f)

  pushed : (fs : List (Frame M)) (f : Frame M) (r : Started Q) → r.frame ≤ length fs → (new : Option (Outcome R)) × (outcome_of x.speech more station (fs ++ f ∷ []) r ≡ answer_after (length fs) (outcome_of x.speech more station fs r) new)
  pushed fs f r le = (_, outcome-push (ends x.speech more (task_of r.service)) station r.frame fs f le)

  longer : (fs : List (Frame M)) (f : Frame M) (n : ℕ) → n ≤ length fs → n ≤ length (fs ++ f ∷ [])
  longer fs f n le = let l = length-append fs (f ∷ []) in omega (arith, l, le)

  pub has_stays : (fs : List (Frame M)) (f : Frame M) (r : Started Q) → r.frame ≤ length fs → (o : Outcome R × ℕ) → outcome_of x.speech more station fs r ≡ Some o → outcome_of x.speech more station (fs ++ f ∷ []) r ≡ Some o
  has_stays fs f r le o e = let p = pushed fs f r le in p.1 ∙ ap (λ old. answer_after (length fs) old p.0) e

  newest_frame : (fs : List (Frame M)) (f : Frame M) (r : Started Q) → IsNewest fs r → IsNewest (fs ++ f ∷ []) r
  newest_frame fs f r n = record { begun = longer fs f r.frame n.begun; below = λ o e. go (outcome_of x.speech more station fs r) p.0 n.below o (sym p.1 ∙ e) }
    where
      p : (new : Option (Outcome R)) × (outcome_of x.speech more station (fs ++ f ∷ []) r ≡ answer_after (length fs) (outcome_of x.speech more station fs r) new)
      p = pushed fs f r n.begun

      go : (old : Option (Outcome R × ℕ)) (new : Option (Outcome R)) → ((o : Outcome R × ℕ) → old ≡ Some o → o.1 < length fs) → (o : Outcome R × ℕ) → answer_after (length fs) old new ≡ Some o → o.1 < length (fs ++ f ∷ [])
      go None None below o e = absurd (cc)
      go None (Some answer) below o e =
          let same : (answer, length fs) ≡ o = cc in
          let at : length fs ≡ o.1 = ap (λ q. q.1) same in
          let l = length-append fs (f ∷ []) in
          omega (arith, l, at)
      go (Some old) new below o e =
          let same : old ≡ o = cc in
          let less : o.1 < length fs = subst (λ q. q.1 < length fs) same (below old refl) in
          let l = length-append fs (f ∷ []) in
          omega (arith, l, less)

  ended_frame : (fs : List (Frame M)) (f : Frame M) (r : Started Q) (next : ℕ) → IsEnded fs r next → IsEnded (fs ++ f ∷ []) r next
  ended_frame fs f r next n = record {
    begun = longer fs f r.frame n.begun;
    has = (n.has.0, has_stays fs f r n.begun n.has.0 n.has.1);
    below = n.below;
  }

  pub completed_frame : (fs : List (Frame M)) (f : Frame M) (rs : List (Started Q)) → Completed fs rs → Completed (fs ++ f ∷ []) rs
  completed_frame fs f [] c = tt
  completed_frame fs f (r ∷ []) c = newest_frame fs f r c
  completed_frame fs f (r ∷ (s ∷ rs)) c = (ended_frame fs f r s.frame c.0, completed_frame fs f (s ∷ rs) c.1)

  -- A SERVICE MORE, behind one that is over
  fresh : (fs : List (Frame M)) (service : Service Q) → IsNewest fs (record { service = service; frame = length fs })
  fresh fs service = record {
    begun = omega arith;
    below = λ o e. absurd (
        let none : outcome_of x.speech more station fs (record { service = service; frame = length fs }) ≡ None = ap (first_end (ends x.speech more (task_of service)) (length fs) []) (news_from-none station fs) in
        cc);
  }

  ended_by : (fs : List (Frame M)) (r : Started Q) → IsNewest fs r → HasOutcome fs r → IsEnded fs r (length fs)
  ended_by fs r n h = record { begun = n.begun; has = h; below = n.below h.0 h.1 }

  completed_push : (fs : List (Frame M)) (rs : List (Started Q)) (service : Service Q) → Completed fs rs → LastOver fs rs → Completed fs (rs ++ record { service = service; frame = length fs } ∷ [])
  completed_push fs [] service c l = fresh fs service
  completed_push fs (r ∷ []) service c l = (ended_by fs r c l, fresh fs service)
  completed_push fs (r ∷ (s ∷ rs)) service c l = (c.0, completed_push fs (s ∷ rs) service c.1 l)

  -- a choice keeps it, where the newest service is over if none is in hand and the side is free
  module _ (acknowledged : Q → Bool) (fs : List (Frame M)) (d : Side M Q R) (a : Account Q R) (c : Completed fs a.started) where
    begins : (hand : Option Duty) (wish : Option (Service Q)) → (hand ≡ None → is_free x.speech d d.now ≡ true → LastOver fs a.started) → Completed fs (account_begins x.speech acknowledged (length fs) d a hand wish).started
    begins hand None over = c
    begins (Some duty) (Some wish) over = c
    begins None (Some (Service.Mails q)) over = go (x.speech.valid q && is_free x.speech d d.now) refl
      where
        go : (b : Bool) → x.speech.valid q && is_free x.speech d d.now ≡ b → Completed fs (if b then record a { started = starts a (Service.Mails q) (length fs) } else a).started
        go false e = c
        go true e = completed_push fs a.started (Service.Mails q) c (over refl (and_parts (x.speech.valid q) (is_free x.speech d d.now) e).1)
    begins None (Some (Service.State target)) over = go (is_free x.speech d d.now && is_acknowledged x.speech acknowledged d d.now) refl
      where
        go : (b : Bool) → is_free x.speech d d.now && is_acknowledged x.speech acknowledged d d.now ≡ b → Completed fs (if b then state_begins a target (length fs) else a).started
        go false e = c
        go true e = completed_push fs a.started (Service.State target) c (over refl (and_parts (is_free x.speech d d.now) (is_acknowledged x.speech acknowledged d d.now) e).0)

    pub completed_next : (p : Pick Q) → (a.hand ≡ None → is_free x.speech d d.now ≡ true → LastOver fs a.started) → Completed fs (account_next x.speech acknowledged (length fs) d a p).started
    completed_next p over = begins a.hand p.begin over

  -- what came back
  pub completed_back : (fs : List (Frame M)) (frame : ℕ) (a : Account Q R) (ds : List (Datagram M)) → Completed fs a.started → Completed fs (account_back station frame a ds).started
  completed_back fs frame a ds c = subst (Completed fs) (sym (started_back station frame a ds)) c
