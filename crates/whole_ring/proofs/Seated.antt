-- A LIFE THAT IS LIVED among the slaves of a ring: what is known of its node, and how the master's frame comes to it.
use Rattle.std.proofs.Common.{◌≡◌, inl, inr, ℕ, ◌==◌, true, false, List, ◌∷◌, ◌++◌, length, refl, ap, sym, ◌∙◌, subst}
use Rattle.std.proofs.lemmas.Bool.{ne_eqb}
use Rattle.slave_lives.specs.of_al_state.Request.{is_state}
use Rattle.slave_lives.specs.of_ec_fields.Fields.{bits_of}
use Rattle.slave_lives.specs.of_slave_node.Passing.{datagrams_after}
use Rattle.slave_lives.specs.of_frames_seen.Ring.{AllApart}
use Rattle.slave_lives.specs.of_frames_seen.Slaves.{registers_seen}
use Rattle.slave_lives.specs.of_link_mails.Body.{Body}
use Rattle.slave_lives.specs.of_mailbox_slave.Registers.{in_len}
use Rattle.slave_lives.specs.of_segment_model.Record.{Frame}
use Rattle.slave_lives.specs.of_segment_ring.Ring.{is_in_pace}
use Rattle.slave_lives.specs.of_slave_node.Node.{Node}
use Rattle.slave_lives.specs.of_life_model.Eras.{Clearing}
use Rattle.slave_lives.specs.of_life_model.Lives.{Spot, Era, Stand}
use Rattle.slave_lives.specs.of_state_model.Steady.{IsSteady}
use Rattle.slave_lives.specs.Ends.{LeftEra}
use Rattle.slave_lives.specs.Lived.{Behind, LivesEra, RingFrame, node_met, node_seen}
use Rattle.slave_lives.specs.Nodes.{IsRoomy}
use Rattle.slave_lives.specs.Opening.{Plan}
use Rattle.slave_lives.specs.Rings.{registers_of, come_to}
use Rattle.slave_lives.specs.Seats.{Seat, KnownAs, ComesAs, MeetsAs, AreDistinct, AllMeet, nodes_of}
use Rattle.slave_lives.specs.Stands.{OpenUp}
use Rattle.slave_lives.proofs.AllSeats as All
use Rattle.slave_lives.proofs.Arrives as Arrived
use Rattle.slave_lives.proofs.Words.{state_in}
use Rattle.whole_ring.specs.Turns.{FrameComes, plan_at, seat_at}
use Rattle.whole_ring.specs.Whole.{IsWhole, Living, Leaving, OpensBy, StandsBy, StandsAs, plan_to}

module _ {S V A Q R : Type 0} (w : Behind S V A Q R) (c : Clearing V A) (p : Plan) (spot : Spot) (whole : IsWhole w c p spot) where
  up_still : (state : ℕ) (from : A) (e : Era Body Q R) (fs : List (Frame Body)) (n : Node S) → LivesEra w spot from e fs n → IsSteady (node_seen w n) → OpenUp w.lens (plan_to p state) n.registers
  up_still state from e fs n l steady =
      let shows = l.runs.shows in
      record {
        opens = l.opens;
        station = l.station ∙ sym whole.station;
        state = ap is_state (ap (λ (x : ℕ). bits_of x 0 4) shows.status ∙ state_in n.al shows.state) ∙ shows.state;
        up = ne_eqb (registers_seen n.registers).state 1 steady.state;
      }

  -- of any family of epochs
  pub known_by : (E Y : Living S A Q R) (L : Leaving S A Q R) (from : A) (e : Era Body Q R) (fs : List (Frame Body)) (stand : Stand) (n : Node S) → (E from e fs n → LivesEra w spot from e fs n) → (Y from e fs n → LivesEra w spot from e fs n) →
      StandsBy w E Y L p spot from e fs stand n → KnownAs w.running w.boot w.lens (plan_at p stand) stand n
  known_by E Y L from e fs (Stand.Opens o) n session still (OpensBy.yet again step plan l) = inr (record { again = again; step = step; up = up_still o.state from e fs n (still l.lives.epoch) l.steady })
  known_by E Y L from e fs (Stand.Opens o) n session still (OpensBy.anew cl x first) = inl cl.closed
  known_by E Y L from e fs (Stand.Opens o) n session still (OpensBy.over cl again early x) = inl cl.closed
  known_by E Y L from e fs Stand.Open n session still now = let l = session now.lives.epoch in (l.opens, l.station ∙ sym whole.station)
  known_by E Y L from e fs Stand.Gone n session still (OpensBy.yet again step plan l) = inr ((still l.lives.epoch).station ∙ sym whole.station)
  known_by E Y L from e fs Stand.Gone n session still (OpensBy.anew cl x first) = Arrived.called_is w.running w.boot w.lens (plan_to p spot.start) cl.plan _ n cl.closed
  known_by E Y L from e fs Stand.Gone n session still (OpensBy.over cl again early x) = Arrived.called_is w.running w.boot w.lens (plan_to p spot.start) cl.plan _ n cl.closed

  pub known : (from : A) (e : Era Body Q R) (fs : List (Frame Body)) (stand : Stand) (n : Node S) → StandsAs w p spot from e fs stand n → KnownAs w.running w.boot w.lens (plan_at p stand) stand n
  known from e fs stand n now = known_by (LivesEra w spot) (LivesEra w spot) (LeftEra w spot) from e fs stand n (λ l. l) (λ l. l) now

pub plan_station : (p : Plan) (stand : Stand) → (plan_at p stand).station ≡ p.station
plan_station p (Stand.Opens o) = refl
plan_station p Stand.Open = refl
plan_station p Stand.Gone = refl

-- the frame comes to it past the others
pub comes : {S V A Q R : Type 0} (w : Behind S V A Q R) (p : Plan) (spot : Spot) (stand : Stand) (t : RingFrame S) (before behind : List (Seat S)) → t.before ≡ nodes_of before → t.behind ≡ nodes_of behind → length t.before ≡ spot.place → (0 == p.station) ≡ false →
    AreDistinct (before ++ seat_at w p stand t.node ∷ behind) → AllMeet (before ++ seat_at w p stand t.node ∷ behind) t.datagrams →
    ComesAs (plan_at p stand) stand spot.place 0 t.datagrams → (is_in_pace t.pace t.ring.number ≡ true → IsRoomy w.running (in_len (node_met t).registers) (node_met t).server) → FrameComes w p spot stand t
comes {S = S} w p spot stand t before behind first last at named distinct meet sent roomy =
    let s : Seat S = seat_at w p stand t.node in
    let one = (All.meets_at before s behind t.datagrams meet).meets in
    let both = All.aparts before s behind t.datagrams (ap (λ (a : ℕ). 0 == a) (plan_station p stand) ∙ named) distinct meet in
    let mine : MeetsAs (plan_at p stand) stand t.node.registers (come_to t.before t.datagrams) = subst (λ (bs : List (Node S)). MeetsAs (plan_at p stand) stand t.node.registers (come_to bs t.datagrams)) (sym first) one in
    let fore : AllApart p.station (registers_of t.before) t.datagrams =
    subst (λ (bs : List (Node S)). AllApart p.station (registers_of bs) t.datagrams) (sym first) (subst (λ (a : ℕ). AllApart a (registers_of (nodes_of before)) t.datagrams) (plan_station p stand) both.0) in
    let aft : AllApart p.station (registers_of (nodes_of behind)) (datagrams_after t.node.registers (come_to t.before t.datagrams)) =
    subst (λ (bs : List (Node S)). AllApart p.station (registers_of (nodes_of behind)) (datagrams_after t.node.registers (come_to bs t.datagrams))) (sym first)
    (subst (λ (a : ℕ). AllApart a (registers_of (nodes_of behind)) (datagrams_after t.node.registers (come_to (nodes_of before) t.datagrams))) (plan_station p stand) both.1) in
    let rear : AllApart p.station (registers_of t.behind) (datagrams_after t.node.registers (come_to t.before t.datagrams)) =
    subst (λ (bs : List (Node S)). AllApart p.station (registers_of bs) (datagrams_after t.node.registers (come_to t.before t.datagrams))) (sym last) aft in
    record { at = at; sent = sent; meets = λ reached. mine; apart = λ reached. fore; last = λ reached. rear; roomy = roomy }
