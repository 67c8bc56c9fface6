-- AN EPOCH ENDS with the server as its node had it, and stays over as frames follow.
use Rattle.std.proofs.Common.{◌≡◌, ℕ, suc, ◌-◌, ◌≤◌, ◌<◌, List, [], ◌∷◌, ◌++◌, length, map, take, drop, refl, ap, sym, ◌∙◌, subst, arith, length-append, length-drop}
use Rattle.std.specs.Prelude.{replicate}
use Rattle.std.proofs.lemmas.List.{drop-append-le, take-append-le}
use Rattle.frames_seen.specs.of_link_mails.Body.{Body}
use Rattle.frames_seen.specs.of_segment_model.Record.{Frame}
use Rattle.frames_seen.specs.Slaves.{registers_seen}
use Rattle.frames_seen.specs.of_slave_node.Node.{Node}
use Rattle.frames_seen.specs.of_life_model.Own.{own_frame, blank}
use Rattle.frames_seen.specs.of_life_model.Lives.{Spot, Era}
use Rattle.frames_seen.specs.of_life_model.Eras.{WasOpen, Eras, Clearing, era_frames, planned}
use Rattle.slave_lives.specs.Ends.{LeftEra, LeftEras, ClearsAs}
use Rattle.slave_lives.specs.Lived.{Behind, LivesEra, table_of, node_seen}
use Rattle.frames_seen.specs.of_state_model.Tasks.{IsTasked}

-- the frames of an epoch that ended stay
frames_stay : (spot : Spot) (opened until : ℕ) (fs gs : List (Frame Body)) → opened < until → until ≤ length fs → era_frames spot opened until (fs ++ gs) ≡ era_frames spot opened until fs
frames_stay spot opened until fs gs before within =
    let rest : drop (suc opened) (fs ++ gs) ≡ drop (suc opened) fs ++ gs = drop-append-le (suc opened) fs gs (omega (arith, before, within)) in
    let first : take (until - suc opened) (drop (suc opened) fs ++ gs) ≡ take (until - suc opened) (drop (suc opened) fs) =
    take-append-le (until - suc opened) (drop (suc opened) fs) gs (omega (arith, before, within, length-drop (suc opened) fs)) in
    ap (λ l. replicate (suc opened) blank ++ map (λ f. own_frame spot.station spot.place f) l) (ap (take (until - suc opened)) rest ∙ first)

module _ {S V A Q R : Type 0} (w : Behind S V A Q R) where
  -- where the slave stops to live it
  pub ends : (spot : Spot) (from : A) (e : Era Body Q R) (fs : List (Frame Body)) (n : Node S) → LivesEra w spot from e fs n → LeftEra w spot from e fs n.server
  ends spot from e fs n l = record {
    opened = l.opened;
    until = length fs;
    server = l.server;
    registers = l.registers;
    slave = node_seen w n;
    before = l.before;
    within = omega arith;
    begins = l.begins;
    first = l.first;
    in_state = l.in_state;
    is = l.is;
    state = (registers_seen n.registers).state;
    leaves = refl;
  }

  pub stays : (spot : Spot) (from : A) (e : Era Body Q R) (fs gs : List (Frame Body)) (s : S) → LeftEra w spot from e fs s → LeftEra w spot from e (fs ++ gs) s
  stays spot from e fs gs s l =
      let within = l.within in
      let same = frames_stay spot l.opened l.until fs gs l.before l.within in
      record {
        opened = l.opened;
        until = l.until;
        server = l.server;
        registers = l.registers;
        slave = l.slave;
        before = l.before;
        within = omega (arith, within, length-append fs gs);
        begins = l.begins;
        first = l.first;
        in_state = l.in_state;
        is = record {
          plan = l.is.plan;
          answers = l.is.answers;
          opened_at = l.is.opened_at;
          tasked = subst (λ frames. IsTasked w.exchange w.states.acknowledged w.processor (planned spot l.server l.registers ∷ []) ((spot.station, e.side) ∷ []) (e.account ∷ []) ((spot.station, l.slave) ∷ []) frames) (sym same) l.is.tasked;
        };
        state = l.state;
        leaves = l.leaves;
      }

  pub all_stay : (cleared : A → A) (spot : Spot) (fs gs : List (Frame Body)) {a : A} {es : List (Era Body Q R)} {b : A} → LeftEras w cleared spot fs a es b → LeftEras w cleared spot (fs ++ gs) a es b
  unfolding stays
  all_stay cleared spot fs gs (LeftEras.none a) = LeftEras.none a
  all_stay cleared spot fs gs (LeftEras.closed a es c e before never) = LeftEras.closed a es c e (all_stay cleared spot fs gs before) never
  all_stay cleared spot fs gs (LeftEras.opened a es c e s before left) = LeftEras.opened a es c e s (all_stay cleared spot fs gs before) (stays spot c e fs gs s left)

  -- as the model has them
  was_open : (spot : Spot) (from : A) (e : Era Body Q R) (fs : List (Frame Body)) (s : S) (l : LeftEra w spot from e fs s) → WasOpen w.exchange w.states w.processor (table_of w) spot e fs from (w.exchange.app (w.sees l.state s).server)
  was_open spot from e fs s l = record { opened = l.opened; until = l.until; server = l.server; registers = l.registers; slave = l.slave; begins = l.begins; era = l.is; leaves = ap w.exchange.app l.leaves }

  pub eras : (cleared : A → A) (spot : Spot) (fs : List (Frame Body)) {a : A} {es : List (Era Body Q R)} {b : A} → LeftEras w cleared spot fs a es b → Eras w.exchange w.states w.processor (table_of w) cleared spot fs a es b
  eras cleared spot fs (LeftEras.none a) = Eras.none a
  eras cleared spot fs (LeftEras.closed a es c e before never) = Eras.closed a es c e (eras cleared spot fs before) never
  eras cleared spot fs (LeftEras.opened a es c e s before left) =
      Eras.opened a es c e (w.exchange.app (w.sees left.state s).server) (eras cleared spot fs before) (was_open spot c e fs s left)

  -- the server behind a return to Init has the application that was left, cleared
  pub clears_to : (c : Clearing V A) → ClearsAs w c → (al : ℕ) (s : S) → w.exchange.app (w.sees al (w.running.clear s)).server ≡ c.cleared (w.exchange.app (w.sees al s).server)
  clears_to c is al s = ap w.exchange.app (is.seen al s) ∙ is.clearing (w.sees al s).server
