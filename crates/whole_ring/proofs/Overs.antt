-- NO STATE SERVICE THAT IS OVER HAD INIT AS ITS TARGET, as long as the slave is open: one that drains has no access of its own, so in the frame by
-- which it has drained it can't end.
use Rattle.std.proofs.Common.{◌≡◌, ◌≢◌, ℕ, ◌==◌, Bool, true, false, List, [], ◌∷◌, ◌++◌, length, refl, ap, sym, ◌∙◌, subst}
use Rattle.std.specs.Prelude.{Option, Some, None, if◌then◌else◌, ⊤, ◌&&◌, not}
use Rattle.std.proofs.lemmas.Bool.{eqb-true, eqb-false}
use Rattle.slave_lives.specs.of_frame_view.Seen.{seen, datagrams_seen}
use Rattle.slave_lives.specs.of_frames_seen.Own.{own_seen}
use Rattle.slave_lives.specs.of_frames_seen.Ring.{AreAnswers}
use Rattle.slave_lives.specs.of_frames_seen.Slaves.{slave_of, registers_seen, IsOpen}
use Rattle.slave_lives.proofs.of_frames_seen.Rings as FrameRings
use Rattle.slave_lives.specs.of_segment_model.Record.{is_for}
use Rattle.slave_lives.specs.of_segment_model.Slaves.{Datagram, Access, Found, frame_after}
use Rattle.slave_lives.specs.of_segment_ring.declared.wire.Fate.{Fate}
use Rattle.slave_lives.specs.of_segment_ring.declared.wire.Fate.TheVariants.{Pass, Lost}
use Rattle.slave_lives.specs.of_state_model.States.{Phase}
use Rattle.slave_lives.specs.of_state_model.Accounts.{Account, Duty, Stage, Progress, Change, IsServed, is_quiet, duty_access, stage_access, access_done, account_by, account_met, account_back}
use Rattle.slave_lives.specs.of_state_model.Steady.{NoneToInit, HandToInit, StageToInit}
use Rattle.slave_lives.specs.of_life_model.Own.{own}
use Rattle.slave_lives.specs.Lived.{Behind, RingFrame, IsForOpen, is_reached, fate_of, octets_back, returned}
use Rattle.slave_lives.specs.Rings.{registers_of, come_back, is_met_at}
use Rattle.slave_lives.proofs.Owned.{own_is}
use Rattle.slave_lives.proofs.RingLives.{sent_is, back_is}

-- no access of these changes a register or reads a status
abbrev pub AllQuiet : {M : Type 0} → List (Datagram M) → Type 0
AllQuiet [] = ⊤
AllQuiet (d ∷ ds) = (is_quiet d.access ≡ true) × AllQuiet ds

-- these are all to the station
abbrev AllFor : {M : Type 0} → ℕ → List (Datagram M) → Type 0
AllFor station [] = ⊤
AllFor station (d ∷ ds) = (is_for station d.address ≡ true) × AllFor station ds

own_for : {M : Type 0} (station : ℕ) (ds : List (Datagram M)) → AllFor station (own station ds)
own_for station [] = tt
own_for {M} station (d ∷ ds) = go (is_for station d.address) refl (own_for station ds)
  where
    go : (b : Bool) → is_for station d.address ≡ b → AllFor station (own station ds) → AllFor station (if b then d ∷ own station ds else own station ds)
    go true e more = (e, more)
    go false e more = more

-- a frame that serves no access has quiet ones alone for the station
served_quiet : {M : Type 0} (station : ℕ) {access : Option Access} {ds : List (Datagram M)} → IsServed station access ds → access ≡ None → AllFor station ds → AllQuiet ds
served_quiet station IsServed.nothing none for = tt
served_quiet station (IsServed.other d ds o more) none for = absurd (let no_ : true ≡ false = sym for.0 ∙ ap (is_for station) o.address ∙ o.apart in cc)
served_quiet station (IsServed.quiet d ds q f more) none for = (q, served_quiet station more none for.1)
served_quiet station (IsServed.own d ds a f more) none for = absurd (cc)

answers_quiet : {M : Type 0} (ds es : List (Datagram M)) → AreAnswers ds es → AllQuiet ds → AllQuiet es
answers_quiet [] [] are quiet = tt
answers_quiet [] (e ∷ es) are quiet = absurd are
answers_quiet (d ∷ ds) [] are quiet = absurd are
answers_quiet (d ∷ ds) (e ∷ es) are quiet = (ap is_quiet are.0.access ∙ quiet.0, answers_quiet ds es are.1 quiet.1)

-- it drains, or has just drained
data IsEarly : Stage → Type 0 where
  drains : IsEarly Stage.Drains
  asks : IsEarly (Stage.Goes Phase.Ask)

record GoesOn (R : Type 0) (target : ℕ) (stage : Stage) (access : Access) (found : Option Found) : Type 0 where
  to : Stage
  early : IsEarly to
  is : access_done {R = R} target stage access found ≡ Progress.On to

full_goes : (R : Type 0) (target : ℕ) (stage : Stage) (found : Option Found) → IsEarly stage → GoesOn R target stage Access.ReadFull found
full_goes R target stage None early = record { to = stage; early = early; is = refl }
full_goes R target stage (Some (Found.Full true)) IsEarly.drains = record { to = Stage.Drains; early = IsEarly.drains; is = refl }
full_goes R target stage (Some (Found.Full false)) IsEarly.drains = record { to = Stage.Goes Phase.Ask; early = IsEarly.asks; is = refl }
full_goes R target stage (Some (Found.State state refused)) IsEarly.drains = record { to = Stage.Drains; early = IsEarly.drains; is = refl }
full_goes R target stage (Some (Found.Full full)) IsEarly.asks = record { to = Stage.Goes Phase.Ask; early = IsEarly.asks; is = refl }
full_goes R target stage (Some (Found.State state refused)) IsEarly.asks = record { to = Stage.Goes Phase.Ask; early = IsEarly.asks; is = refl }

goes_on : (R : Type 0) (target : ℕ) (stage : Stage) (access : Access) (found : Option Found) → is_quiet access ≡ true → IsEarly stage → GoesOn R target stage access found
goes_on R target stage Access.ReadFull found quiet early = full_goes R target stage found early
goes_on R target stage Access.Elsewhere found quiet early = record { to = stage; early = early; is = refl }
goes_on R target stage (Access.SetStation station) found quiet early = absurd (cc)
goes_on R target stage (Access.SetFirst right) found quiet early = absurd (cc)
goes_on R target stage (Access.SetSecond right) found quiet early = absurd (cc)
goes_on R target stage (Access.SetControl word acknowledge) found quiet early = absurd (cc)
goes_on R target stage Access.ReadState found quiet early = absurd (cc)

-- a target that isn't Init stays so
abbrev NotInit : Option Duty → Type 0
NotInit None = ⊤
NotInit (Some duty) = duty.target ≢ 1

none_more : {R : Type 0} (cs : List (Change R)) (c : Change R) → NoneToInit cs → c.target ≢ 1 → NoneToInit (cs ++ c ∷ [])
none_more [] c over last = (last, tt)
none_more (x ∷ cs) c over last = (over.0, none_more cs c over.1 last)

module _ {M Q R : Type 0} (station frame : ℕ) where
  early_back : (es : List (Datagram M)) (a : Account Q R) (duty : Duty) → a.hand ≡ Some duty → IsEarly duty.stage → AllQuiet es → (account_back station frame a es).over ≡ a.over
  early_back [] a duty hand early quiet = refl
  early_back (e ∷ es) a duty hand early quiet =
      ap (λ (h : Option Duty). (account_back station frame (account_met station frame a h e) es).over) hand
      ∙ go (is_for station e.address && not (e.counter == 0)) (λ b next is still. early_back es b next is still quiet.1)
    where
      on : GoesOn R duty.target duty.stage e.access e.found
      on = goes_on R duty.target duty.stage e.access e.found quiet.0 early

      go : (b : Bool) → ((b : Account Q R) (next : Duty) → b.hand ≡ Some next → IsEarly next.stage → (account_back station frame b es).over ≡ b.over) →
          (account_back station frame (if b then account_by frame a duty (access_done duty.target duty.stage e.access e.found) else a) es).over ≡ a.over
      go true more = ap (λ (x : Progress R). (account_back station frame (account_by frame a duty x) es).over) on.is ∙ more (record a { hand = Some (record duty { stage = on.to }) }) (record duty { stage = on.to }) refl on.early
      go false more = more a duty hand early

  other_back : (es : List (Datagram M)) (a : Account Q R) → NoneToInit a.over → NotInit a.hand → NoneToInit (account_back station frame a es).over
  other_back [] a over hand = over
  other_back (e ∷ es) a over hand = by (λ b is other. other_back es b is other) a.hand refl
    where
      progress : ((b : Account Q R) → NoneToInit b.over → NotInit b.hand → NoneToInit (account_back station frame b es).over) → (duty : Duty) → duty.target ≢ 1 → (x : Progress R) → NoneToInit (account_back station frame (account_by frame a duty x) es).over
      progress more duty other (Progress.On stage) = more (record a { hand = Some (record duty { stage = stage }) }) over other
      progress more duty other (Progress.Over answer) =
          let c : Change R = record { target = duty.target; frame = duty.frame; answer = answer; completed = frame } in more (record a { hand = None; over = a.over ++ c ∷ [] }) (none_more a.over c over other) tt

      go : ((b : Account Q R) → NoneToInit b.over → NotInit b.hand → NoneToInit (account_back station frame b es).over) → (duty : Duty) → duty.target ≢ 1 → (b : Bool) → NoneToInit (account_back station frame (if b then account_by frame a duty (access_done duty.target duty.stage e.access e.found) else a) es).over
      go more duty other true = progress more duty other (access_done duty.target duty.stage e.access e.found)
      go more duty other false = more a over hand

      by : ((b : Account Q R) → NoneToInit b.over → NotInit b.hand → NoneToInit (account_back station frame b es).over) → (h : Option Duty) → a.hand ≡ h → NoneToInit (account_back station frame (account_met station frame a h e) es).over
      by more None is = more a over hand
      by more (Some duty) is = go more duty (subst NotInit is hand) (is_for station e.address && not (e.counter == 0))

  -- BEHIND A FRAME THAT CAME BACK
  pub over_back : (es : List (Datagram M)) (a : Account Q R) → NoneToInit a.over → HandToInit a.hand → (duty_access a.hand ≡ None → AllQuiet es) → NoneToInit (account_back station frame a es).over
  over_back es a over hand quiet = by a.hand refl
    where
      stage_is : (duty : Duty) → a.hand ≡ Some duty → duty.target ≡ 1 → (stage : Stage) → duty.stage ≡ stage → StageToInit duty.target stage → NoneToInit (account_back station frame a es).over
      stage_is duty is one Stage.Drains at to =
          let none : duty_access a.hand ≡ None = ap duty_access is ∙ ap (stage_access duty.target) at in
          subst NoneToInit (sym (early_back es a duty is (subst IsEarly (sym at) IsEarly.drains) (quiet none))) over
      stage_is duty is one (Stage.Goes phase) at to = absurd (to one)

      go : (duty : Duty) → a.hand ≡ Some duty → (b : Bool) → (duty.target == 1) ≡ b → NoneToInit (account_back station frame a es).over
      go duty is true e = stage_is duty is (eqb-true duty.target 1 e) duty.stage refl (subst HandToInit is hand)
      go duty is false e = other_back es a over (subst NotInit (sym is) (eqb-false duty.target 1 e))

      by : (h : Option Duty) → a.hand ≡ h → NoneToInit (account_back station frame a es).over
      by None is = other_back es a over (subst NotInit (sym is) tt)
      by (Some duty) is = go duty is (duty.target == 1) refl

module _ {S V A Q R : Type 0} (w : Behind S V A Q R) (station : ℕ) (t : RingFrame S) where
  -- what comes back of a frame with quiet accesses for the station has quiet ones
  pub quiet_back : IsOpen w.lens t.node.registers → t.node.registers.station ≡ station → (is_reached t ≡ true → IsForOpen t.before t.node t.behind t.datagrams) → AllQuiet (own station (seen w.lens t.octets)) → AllQuiet (own station (seen w.lens (octets_back t)))
  quiet_back opens here alone quiet = subst (λ ds. AllQuiet (own station ds)) (sym (back_is w.running w.lens t)) (go (fate_of t) refl)
    where
      go : (fate : Fate) → fate_of t ≡ fate → AllQuiet (own station (datagrams_seen w.lens (returned fate t.before t.node t.behind t.datagrams)))
      go (Lost after) e = tt
      go Pass e =
          let f = alone (ap (λ (fate : Fate). is_met_at (length t.before) fate) e) in
          let r = t.node.registers in
          let v = w.sees (registers_seen r).state t.node.server in
          let ring = FrameRings.ring_view w.lens (registers_of t.before) r (registers_of t.behind) t.node.kept v t.datagrams opens f.apart f.alone f.last f.spoken in
          let sent : own station (seen w.lens t.octets) ≡ own_seen w.lens r.station t.datagrams = ap (own station) (sent_is w.lens t) ∙ own_is w.lens station t.datagrams ∙ ap (λ (a : ℕ). own_seen w.lens a t.datagrams) (sym here) in
          let back : own station (datagrams_seen w.lens (come_back t.before t.node t.behind t.datagrams)) ≡ frame_after r.station (slave_of t.node.kept r v) (own_seen w.lens r.station t.datagrams) =
          own_is w.lens station (come_back t.before t.node t.behind t.datagrams) ∙ ap (λ (a : ℕ). own_seen w.lens a (come_back t.before t.node t.behind t.datagrams)) (sym here) ∙ ring.back in
          subst AllQuiet (sym back) (answers_quiet (own_seen w.lens r.station t.datagrams) (frame_after r.station (slave_of t.node.kept r v) (own_seen w.lens r.station t.datagrams))
          (FrameRings.answers r.station (slave_of t.node.kept r v) (own_seen w.lens r.station t.datagrams)) (subst AllQuiet sent quiet))

pub sent_quiet : {M : Type 0} (station : ℕ) (access : Option Access) (sent : List (Datagram M)) → IsServed station access (own station sent) → access ≡ None → AllQuiet (own station sent)
sent_quiet station access sent served none = served_quiet station served none (own_for station sent)
