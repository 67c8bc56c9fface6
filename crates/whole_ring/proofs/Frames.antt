-- THE MASTER'S FRAME comes to each slave as its life asks for it: what the master says of the frame by its own words is what the ring's laws ask for.
use Rattle.std.proofs.Common.{◌≡◌, ◌⊎◌, inl, inr, ℕ, suc, ◌+◌, ◌-◌, ◌%◌, ◌<◌, ◌==◌, ◌&&◌, Bool, true, false, List, [], ◌∷◌, ◌++◌, length, refl, ap, sym, ◌∙◌, subst, arith}
use Rattle.std.specs.Prelude.{if◌then◌else◌, ◌||◌, not, slice_index}
use Rattle.std.proofs.lemmas.Bool.{ne_eqb, eqb-false, eq-eqb}
use Rattle.slave_lives.specs.of_al_state.declared.bringing.BringStep.{BringStep}
use Rattle.slave_lives.specs.of_al_state.declared.bringing.BringUp.{BringUp}
use Rattle.slave_lives.specs.of_al_state.BringUp.{head_of, octets_of}
use Rattle.slave_lives.specs.of_datagrams.declared.command.Command.{Command}
use Rattle.slave_lives.specs.of_datagrams.declared.command.Command.TheVariants.{Aprd, Apwr, Fprd, Fpwr}
use Rattle.slave_lives.specs.of_datagrams.Datagram as Raw
use Rattle.slave_lives.specs.of_datagrams.Frame.{chained, saying, datagram_of}
use Rattle.slave_lives.specs.of_esc_registers.Access.{is_by_place, is_by_station}
use Rattle.slave_lives.specs.of_frame_view.View.{Lens}
use Rattle.slave_lives.specs.of_frames_seen.Own.{own_of}
use Rattle.slave_lives.specs.of_frames_seen.Places.{AllElse}
use Rattle.slave_lives.specs.of_esc_registers.Manager.{is_enabled}
use Rattle.slave_lives.specs.of_frames_seen.Spoken.{is_spoken, IsSpoken, AllSpoken}
use Rattle.slave_lives.specs.of_life_model.Lives.{Spot, Opening, Stand}
use Rattle.slave_lives.specs.of_frame_view.Frames as Frames
use Rattle.slave_lives.specs.of_frame_view.Frames.{Share, FrameFor, IsOpenGram, IsRequest}
use Rattle.slave_lives.specs.of_frame_view.Openings.{step_number, opening_of, IsOpeningGram}
use Rattle.slave_lives.specs.Opening.{Plan}
use Rattle.slave_lives.specs.Stands.{turn_of}
use Rattle.slave_lives.specs.Seats.{ComesAs}
use Rattle.slave_lives.specs.Ways.{IsNotFor, AllNotFor, IsOnWay, OneOnWay}
use Rattle.whole_ring.specs.Whole.{plan_to}
use Rattle.whole_ring.proofs.Still.{own_not}
use Rattle.whole_ring.specs.Turns.{plan_at}

-- a datagram by its command
by_station_not_place : (c : Command) → (c ≡ Fprd) ⊎ (c ≡ Fpwr) → is_by_place c ≡ false
by_station_not_place c (inl e) = ap is_by_place e
by_station_not_place c (inr e) = ap is_by_place e

by_station_is : (c : Command) → (c ≡ Fprd) ⊎ (c ≡ Fpwr) → is_by_station c ≡ true
by_station_is c (inl e) = ap is_by_station e
by_station_is c (inr e) = ap is_by_station e

by_place_not_station : (c : Command) → (c ≡ Aprd) ⊎ (c ≡ Apwr) → is_by_station c ≡ false
by_place_not_station c (inl e) = ap is_by_station e
by_place_not_station c (inr e) = ap is_by_station e

no_place : {X : Type 0} (c : Command) → is_by_place c ≡ false → is_by_place c ≡ true → X
no_place c e f = absurd (let no_ : false ≡ true = sym e ∙ f in cc)

flip_false : (a b : ℕ) → (a == b) ≡ false → (b == a) ≡ false
flip_false a b e = ne_eqb b a (λ (f : b ≡ a). eqb-false a b e (sym f))

-- a place behind no slave
none_passed : (to : ℕ) → to < 16 → (65536 - to) % 65536 ≡ (65536 - to + 0) % 65536
none_passed to few = omega (arith, few)

module _ (p : Plan) (spot : Spot) (same : p.station ≡ spot.station) where
  -- ANOTHER SLAVE'S
  not_for : (d : Raw.Datagram) → Frames.IsNotFor spot d → IsNotFor p spot.place 0 d
  not_for d (Frames.IsNotFor.station other by differs named) = (
    λ place. no_place d.head.command (by_station_not_place d.head.command by.command) place,
    ap (λ (b : Bool). b && d.head.adp == p.station) (by_station_is d.head.command by.command) ∙ ap (λ (a : ℕ). a == p.station) by.adp ∙ ap (λ (s : ℕ). other == s) same ∙ differs,
    ap (λ (b : Bool). b && d.head.adp == 0) (by_station_is d.head.command by.command) ∙ ap (λ (a : ℕ). a == 0) by.adp ∙ flip_false 0 other named,
  )
  not_for d (Frames.IsNotFor.place other by differs few) = (
    λ place. (other, few, differs, by.adp ∙ none_passed other few),
    ap (λ (b : Bool). b && d.head.adp == p.station) (by_place_not_station d.head.command by.command),
    ap (λ (b : Bool). b && d.head.adp == 0) (by_place_not_station d.head.command by.command),
  )

  pub all_not_for : (ds : List Raw.Datagram) → Frames.AllNotFor spot ds → AllNotFor p spot.place 0 ds
  all_not_for [] others = tt
  all_not_for (d ∷ ds) others = (not_for d others.0, all_not_for ds others.1)

-- "more" changes nothing of that
pub chain_others : (p : Plan) (place : ℕ) (ds : List Raw.Datagram) → AllNotFor p place 0 ds → AllNotFor p place 0 (chained ds)
chain_others p place [] others = tt
chain_others p place (d ∷ []) others = others
chain_others p place (d ∷ (e ∷ ds)) others = (others.0, chain_others p place (e ∷ ds) others.1)

-- JUST ONE DATAGRAM of these is for the slave, at this place, and it is so
pub record Placed (p : Plan) (place at : ℕ) (Is : Raw.Datagram → Type 0) (ds : List Raw.Datagram) : Type 0 where
  pub front : List Raw.Datagram
  pub gram : Raw.Datagram
  pub behind : List Raw.Datagram
  pub split : ds ≡ front ++ gram ∷ behind
  pub at_is : length front ≡ at
  pub before : AllNotFor p place 0 front
  pub is : Is gram
  pub after : AllNotFor p place 0 behind

module _ (p : Plan) (place : ℕ) (Is : Raw.Datagram → Type 0) (says : (more : Bool) (d : Raw.Datagram) → Is d → Is (saying more d)) where
  place_front : (at : ℕ) (f : Raw.Datagram) (ds : List Raw.Datagram) → IsNotFor p place 0 f → Placed p place at Is ds → Placed p place (suc at) Is (f ∷ ds)
  place_front at f ds other x =
      record { front = f ∷ x.front; gram = x.gram; behind = x.behind; split = ap (λ l. f ∷ l) x.split; at_is = ap suc x.at_is; before = (other, x.before); is = x.is; after = x.after }

  place_here : (d : Raw.Datagram) (ds : List Raw.Datagram) → Is d → AllNotFor p place 0 ds → Placed p place 0 Is (chained (d ∷ ds))
  place_here d [] is others = record { front = []; gram = saying false d; behind = []; split = refl; at_is = refl; before = tt; is = says false d is; after = tt }
  place_here d (e ∷ ds) is others =
      record { front = []; gram = saying true d; behind = chained (e ∷ ds); split = refl; at_is = refl; before = tt; is = says true d is; after = chain_others p place (e ∷ ds) others }

  pub place_in : (front : List Raw.Datagram) (d : Raw.Datagram) (behind : List Raw.Datagram) → AllNotFor p place 0 front → Is d → AllNotFor p place 0 behind → Placed p place (length front) Is (chained (front ++ d ∷ behind))
  place_in [] d behind before is after = place_here d behind is after
  place_in (f ∷ []) d behind before is after = place_front 0 (saying true f) (chained (d ∷ behind)) before.0 (place_here d behind is after)
  place_in (f ∷ (g ∷ fs)) d behind before is after = place_front (suc (length fs)) (saying true f) (chained ((g ∷ fs) ++ d ∷ behind)) before.0 (place_in (g ∷ fs) d behind before.1 is after)

-- the access in hand, as it is sent
pub record IsSent (p : Plan) (n place : ℕ) (d : Raw.Datagram) : Type 0 where
  pub on : IsOnWay p n place 0 d
  pub first : d.head.counter ≡ 0

sent_says : (p : Plan) (n place : ℕ) (more : Bool) (d : Raw.Datagram) → IsSent p n place d → IsSent p n place (saying more d)
sent_says p n place more d s = record { on = record { command = s.on.command; adp = s.on.adp; ado = s.on.ado; octets = s.on.octets }; first = s.first }

open_says : (station : ℕ) (more : Bool) (d : Raw.Datagram) → IsOpenGram station d → IsOpenGram station (saying more d)
open_says station more d g = record { counter = g.counter; to = record { command = g.to.command; adp = g.to.adp }; writes = g.writes }

-- so at most one of them is
one_of : (p : Plan) (n place : ℕ) (front : List Raw.Datagram) (d : Raw.Datagram) (behind : List Raw.Datagram) → AllNotFor p place 0 front → IsOnWay p n place 0 d → AllNotFor p place 0 behind → OneOnWay p n place 0 (front ++ d ∷ behind)
one_of p n place [] d behind before on after = inr (on, after)
one_of p n place (f ∷ fs) d behind before on after = inl (before.0, one_of p n place fs d behind before.1 on after)

pub none_one : (p : Plan) (n place : ℕ) (ds : List Raw.Datagram) → AllNotFor p place 0 ds → OneOnWay p n place 0 ds
none_one p n place [] others = tt
none_one p n place (d ∷ ds) others = inl (others.0, none_one p n place ds others.1)

-- of an open slave the session speaks of it
gram_spoken : (station : ℕ) (d : Raw.Datagram) → station < 65536 → IsOpenGram station d → IsSpoken station d
gram_spoken station d small g = record {
  spoken = λ means_it. by g.to.command;
  room = record { counter = (let e = g.counter in omega (arith, e)); ahead = (let e = g.to.adp in omega (arith, e, small)); place = λ place. no_place d.head.command (by_station_not_place d.head.command g.to.command) place };
}
  where
    request : IsRequest d.body → is_enabled (slice_index d.body 0) ≡ true
    request (inl e) = ap (λ (b : List ℕ). is_enabled (slice_index b 0)) e
    request (inr e) = ap (λ (b : List ℕ). is_enabled (slice_index b 0)) e

    written : Frames.IsWritten d.head.ado d.body → (d.head.ado == 288 || (d.head.ado == 4096 || (d.head.ado == 2062 && is_enabled (slice_index d.body 0)))) ≡ true
    written (inl e) = ap (λ (a : ℕ). a == 288 || (a == 4096 || (a == 2062 && is_enabled (slice_index d.body 0)))) e
    written (inr (inl e)) = ap (λ (a : ℕ). a == 288 || (a == 4096 || (a == 2062 && is_enabled (slice_index d.body 0)))) e
    written (inr (inr (e, r))) = ap (λ (a : ℕ). a == 288 || (a == 4096 || (a == 2062 && is_enabled (slice_index d.body 0)))) e ∙ request r

    by : (d.head.command ≡ Fprd) ⊎ (d.head.command ≡ Fpwr) → is_spoken d.head.command d.head.ado d.body ≡ true
    by (inl e) = ap (λ (c : Command). is_spoken c d.head.ado d.body) e
    by (inr e) = ap (λ (c : Command). is_spoken c d.head.ado d.body) e ∙ written (g.writes e)

others_else : (p : Plan) (place : ℕ) (ds : List Raw.Datagram) → AllNotFor p place 0 ds → AllElse place 0 ds
others_else p place [] others = tt
others_else p place (d ∷ ds) others = (others.0.0, others_else p place ds others.1)

others_spoken : (p : Plan) (place : ℕ) (ds : List Raw.Datagram) → AllNotFor p place 0 ds → AllSpoken p.station (own_of p.station ds)
others_spoken p place ds others = subst (λ l. AllSpoken p.station l) (sym (own_not p place 0 ds others)) tt

-- the frame of an open slave
else_of : (p : Plan) (place : ℕ) (front : List Raw.Datagram) (d : Raw.Datagram) (behind : List Raw.Datagram) → AllNotFor p place 0 front → IsOpenGram p.station d → AllNotFor p place 0 behind → AllElse place 0 (front ++ d ∷ behind)
else_of p place [] d behind before g after = (λ at. no_place d.head.command (by_station_not_place d.head.command g.to.command) at, others_else p place behind after)
else_of p place (f ∷ fs) d behind before g after = (before.0.0, else_of p place fs d behind before.1 g after)

spoken_of : (p : Plan) (place : ℕ) (front : List Raw.Datagram) (d : Raw.Datagram) (behind : List Raw.Datagram) → p.station < 65536 → AllNotFor p place 0 front → IsOpenGram p.station d → AllNotFor p place 0 behind → AllSpoken p.station (own_of p.station (front ++ d ∷ behind))
spoken_of p place [] d behind small before g after =
    subst (λ (b : Bool). AllSpoken p.station (if b then d ∷ own_of p.station behind else own_of p.station behind)) (sym (ap (λ (b : Bool). b && d.head.adp == p.station) (by_station_is d.head.command g.to.command) ∙ eq-eqb d.head.adp p.station g.to.adp))
    (gram_spoken p.station d small g, others_spoken p place behind after)
spoken_of p place (f ∷ fs) d behind small before g after =
    subst (λ (b : Bool). AllSpoken p.station (if b then f ∷ own_of p.station (fs ++ d ∷ behind) else own_of p.station (fs ++ d ∷ behind))) (sym before.0.1) (spoken_of p place fs d behind small before.1 g after)

-- THE ACCESS OF AN OPENING as it is sent is that access on its way
module _ (lens : ℕ → Lens) (p : Plan) (spot : Spot) (same : p.station ≡ spot.station) (out : (lens p.station).out ≡ p.out) (back : (lens p.station).back ≡ p.back) where
  -- each access of this number, at this place and these lengths
  sent : (up : BringUp) (index : ℕ) → up.station ≡ p.station → up.adp ≡ (65536 - spot.place + 0) % 65536 → up.out_len ≡ p.out → up.in_len ≡ p.back → (again : Bool) → up.again ≡ again → (step : BringStep) → up.step ≡ step → (step_number again step == 0) ≡ false →
      IsOnWay (plan_to p up.start) (turn_of (record { again = again; step = step_number again step; state = up.start; own = false })) spot.place 0 (datagram_of (head_of up index) (octets_of up))
  sent up index station place olen ilen true a BringStep.Return s n = rw s (record { command = refl; adp = place; ado = refl; octets = refl })
  sent up index station place olen ilen true a BringStep.Watch s n = rw s (record { command = refl; adp = place; ado = refl; octets = refl })
  sent up index station place olen ilen true a BringStep.Address s n = rw (s, station) (record { command = refl; adp = place; ado = refl; octets = refl })
  sent up index station place olen ilen true a BringStep.OutOff s n = rw (s, station, olen) (record { command = refl; adp = refl; ado = refl; octets = refl })
  sent up index station place olen ilen true a BringStep.InOff s n = rw (s, station, ilen) (record { command = refl; adp = refl; ado = refl; octets = refl })
  sent up index station place olen ilen true a BringStep.OutManager s n = rw (s, station, olen) (record { command = refl; adp = refl; ado = refl; octets = refl })
  sent up index station place olen ilen true a BringStep.InManager s n = rw (s, station, ilen) (record { command = refl; adp = refl; ado = refl; octets = refl })
  sent up index station place olen ilen true a BringStep.Start s n = rw (s, station) (record { command = refl; adp = refl; ado = refl; octets = refl })
  sent up index station place olen ilen true a BringStep.Await s n = rw (s, station) (record { command = refl; adp = refl; ado = refl; octets = refl })
  sent up index station place olen ilen false a BringStep.Address s n = rw (s, station) (record { command = refl; adp = place; ado = refl; octets = refl })
  sent up index station place olen ilen false a BringStep.OutManager s n = rw (s, station, olen) (record { command = refl; adp = refl; ado = refl; octets = refl })
  sent up index station place olen ilen false a BringStep.InManager s n = rw (s, station, ilen) (record { command = refl; adp = refl; ado = refl; octets = refl })
  sent up index station place olen ilen false a BringStep.Start s n = rw (s, station) (record { command = refl; adp = refl; ado = refl; octets = refl })
  sent up index station place olen ilen false a BringStep.Await s n = rw (s, station) (record { command = refl; adp = refl; ado = refl; octets = refl })
  sent up index station place olen ilen false a BringStep.Return s n = absurd (cc)
  sent up index station place olen ilen false a BringStep.Watch s n = absurd (cc)
  sent up index station place olen ilen false a BringStep.OutOff s n = absurd (cc)
  sent up index station place olen ilen false a BringStep.InOff s n = absurd (cc)

  no_count : (up : BringUp) (index : ℕ) (step : BringStep) → up.step ≡ step → (head_of up index).counter ≡ 0
  no_count up index BringStep.Return e = rw e refl
  no_count up index BringStep.Watch e = rw e refl
  no_count up index BringStep.Address e = rw e refl
  no_count up index BringStep.OutOff e = rw e refl
  no_count up index BringStep.InOff e = rw e refl
  no_count up index BringStep.OutManager e = rw e refl
  no_count up index BringStep.InManager e = rw e refl
  no_count up index BringStep.Start e = rw e refl
  no_count up index BringStep.Await e = rw e refl

  is_step : (b : Bool) → not b ≡ true → b ≡ false
  is_step true e = absurd (cc)
  is_step false e = refl

  opening_sent : (o : Opening) (d : Raw.Datagram) → spot.place < 16 → IsOpeningGram lens spot o d → IsSent (plan_to p o.state) (turn_of o) spot.place d
  opening_sent o d near g =
      let up = g.up in
      let on = sent up g.index (g.to.station ∙ sym same) (g.to.place ∙ none_passed spot.place near) (g.to.out ∙ ap (λ (s : ℕ). (lens s).out) (sym same) ∙ out) (g.to.back ∙ ap (λ (s : ℕ). (lens s).back) (sym same) ∙ back)
      up.again refl up.step refl (is_step (step_number up.again up.step == 0) g.to.step) in
      let there : IsSent (plan_to p up.start) (turn_of (opening_of up g.own)) spot.place d = subst (λ e. IsSent (plan_to p up.start) (turn_of (opening_of up g.own)) spot.place e) (sym g.is) (record { on = on; first = no_count up g.index up.step refl }) in
      subst (λ (k : Opening). IsSent (plan_to p k.state) (turn_of k) spot.place d) (sym g.opening) there

  -- the slave's share of a frame: none, or the access at its place
  pub opening_in : (o : Opening) (share : Share) (ds : List Raw.Datagram) → spot.place < 16 → FrameFor lens spot (Stand.Opens o) share ds →
      ((share.under ≡ false) × AllNotFor (plan_to p o.state) spot.place 0 (chained ds)) ⊎ ((share.under ≡ true) × Placed (plan_to p o.state) spot.place share.at (IsSent (plan_to p o.state) (turn_of o) spot.place) (chained ds))
  opening_in o share ds near (FrameFor.none not_ others) = inl (not_, chain_others (plan_to p o.state) spot.place ds (all_not_for (plan_to p o.state) spot same ds others))
  opening_in o share ds near (FrameFor.one is d has g) =
      let q = plan_to p o.state in
      let in_ = place_in q spot.place (IsSent q (turn_of o) spot.place) (sent_says q (turn_of o) spot.place) has.front d has.behind (all_not_for q spot same has.front has.before) (opening_sent o d near g) (all_not_for q spot same has.behind has.after) in
      inr (
        is,
        subst (λ l. Placed q spot.place share.at (IsSent q (turn_of o) spot.place) (chained l)) (sym has.split)
            (subst (λ (at : ℕ). Placed q spot.place at (IsSent q (turn_of o) spot.place) (chained (has.front ++ d ∷ has.behind))) has.place in_),
      )

  open_in : (share : Share) (ds : List Raw.Datagram) → p.station < 65536 → FrameFor lens spot Stand.Open share ds → AllElse spot.place 0 (chained ds) × AllSpoken p.station (own_of p.station (chained ds))
  open_in share ds small (FrameFor.none not_ others) = let all = chain_others p spot.place ds (all_not_for p spot same ds others) in (others_else p spot.place (chained ds) all, others_spoken p spot.place (chained ds) all)
  open_in share ds small (FrameFor.one is d has g) =
      let mine : IsOpenGram p.station d = subst (λ (s : ℕ). IsOpenGram s d) (sym same) g in
      let x = place_in p spot.place (IsOpenGram p.station) (open_says p.station) has.front d has.behind (all_not_for p spot same has.front has.before) mine (all_not_for p spot same has.behind has.after) in
      let both : AllElse spot.place 0 (chained (has.front ++ d ∷ has.behind)) × AllSpoken p.station (own_of p.station (chained (has.front ++ d ∷ has.behind))) =
      subst (λ l. AllElse spot.place 0 l × AllSpoken p.station (own_of p.station l)) (sym x.split) (else_of p spot.place x.front x.gram x.behind x.before x.is x.after, spoken_of p spot.place x.front x.gram x.behind small x.before x.is x.after) in
      subst (λ l. AllElse spot.place 0 (chained l) × AllSpoken p.station (own_of p.station (chained l))) (sym has.split) both

  -- THE FRAME COMES to the slave's place as its stand allows
  pub comes_as : (stand : Stand) (share : Share) (ds : List Raw.Datagram) → spot.place < 16 → p.station < 65536 → FrameFor lens spot stand share ds → ComesAs (plan_at p stand) stand spot.place 0 (chained ds)
  comes_as (Stand.Opens o) share ds near small has = go (opening_in o share ds near has)
    where
      go : ((share.under ≡ false) × AllNotFor (plan_to p o.state) spot.place 0 (chained ds)) ⊎ ((share.under ≡ true) × Placed (plan_to p o.state) spot.place share.at (IsSent (plan_to p o.state) (turn_of o) spot.place) (chained ds)) →
          OneOnWay (plan_to p o.state) (turn_of o) spot.place 0 (chained ds)
      go (inl (not_, others)) = none_one (plan_to p o.state) (turn_of o) spot.place (chained ds) others
      go (inr (is, x)) = subst (λ l. OneOnWay (plan_to p o.state) (turn_of o) spot.place 0 l) (sym x.split) (one_of (plan_to p o.state) (turn_of o) spot.place x.front x.gram x.behind x.before x.is.on x.after)
  comes_as Stand.Open share ds near small has = open_in share ds small has
  comes_as Stand.Gone share ds near small (FrameFor.none not_ others) = chain_others p spot.place ds (all_not_for p spot same ds others)
  comes_as Stand.Gone share ds near small (FrameFor.one is d has g) = absurd g
