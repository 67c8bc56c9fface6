-- All slaves by such a frame.
use Rattle.std.proofs.Common.{◌≡◌, ◌⊎◌, ◌≤◌, ℕ, suc, Bool, true, false, Option, None, List, [], ◌∷◌, refl, sym, ap, ◌∙◌, subst, arith, if◌then◌else◌, inl, inr}
use Rattle.std.specs.Prelude.{⊤, nat_lt}
use Rattle.std.proofs.lemmas.Bool.{ltb-false}
use Rattle.idle_slaves.specs.Eager.{Remembered, AllEager, AllGetNone}
use Rattle.idle_slaves.specs.Standing.{Standing}
use Rattle.plan_ring.specs.of_exchange_model.Exchange.{Speech}
use Rattle.plan_ring.specs.of_frame_view.View.{Lens}
use Rattle.idle_slaves.proofs.Waiting.{holds}
use Rattle.plan_ring.specs.of_life_model.Gains.{gains}
use Rattle.plan_ring.specs.of_life_model.Repairs.{way_of, stand_way}
use Rattle.plan_ring.proofs.of_life_model.Gaining.{next_same, back_grows}
use Rattle.plan_ring.specs.of_life_model.Lives.{Life, Spot, Stand}
use Rattle.plan_ring.specs.of_life_model.Own.{own}
use Rattle.plan_ring.specs.of_life_runs.Led.{Leads, Turn, speech_at, is_passed}
use Rattle.plan_ring.specs.of_link_mails.Body.{Body}
use Rattle.plan_ring.specs.of_link_model.Frames.{all_accepted}
use Rattle.plan_ring.specs.of_link_model.Link.{Halves}
use Rattle.plan_ring.specs.of_link_model.Master.{InState}
use Rattle.plan_ring.specs.of_master_duty.Reply.{Reply}
use Rattle.plan_ring.specs.of_master_hand.Spoken.{Asked, acknowledged, is_followed}
use Rattle.plan_ring.specs.PlanMet.{slave_at}
use Rattle.plan_ring.specs.Hands.{AllHand}
use Rattle.plan_ring.specs.of_run_frames.Clocks.{gains_all, reopened_all, still_behind}
use Rattle.plan_ring.specs.of_run_frames.Goes.{Under, IsUnder, AllUnder, back_life, all_back}
use Rattle.plan_ring.specs.of_run_frames.Led.{AreLed}
use Rattle.plan_ring.specs.of_run_frames.Orders.{AllRepaired}
use Rattle.plan_ring.specs.of_run_frames.Waits.{Waits, all_anew, all_on, SomeWaits}
use Rattle.plan_ring.specs.of_segment_model.Slaves.{Datagram, grams, serving}
use Rattle.plan_ring.specs.of_segment_plan.declared.service.Service as Plan
use Rattle.plan_ring.specs.of_segment_plan.declared.slave.SlaveSpec.{SlaveSpec}
use Rattle.plan_ring.specs.of_slave_server.Serving.{Serving}
use Rattle.plan_ring.specs.of_slave_node.Node.{Node}
use Rattle.idle_slaves.specs.WaitEager.{AllRest}
use Rattle.idle_slaves.proofs.Begins.{begins}
use Rattle.idle_slaves.proofs.Fits.{AllReady, AllSeated, IsFit, exchange_at, next_of, nexts_of, table_at}
pub use Rattle.idle_slaves.proofs.Fits.{Slave}
use Rattle.idle_slaves.proofs.One.{stands_on, quiet_at}

-- ---- NOTHING WAS GAINED, of none
pub still_same : (repair : ℕ) (before behind : List Slave) (still : ℕ) → still_behind repair before behind still ≡ suc still → (repair ≡ 0) × (gains_all behind ≤ gains_all before)
still_same repair before behind still e = first (nat_lt (reopened_all before) (reopened_all behind)) e
  where
    third : (b : Bool) → nat_lt (gains_all before) (gains_all behind) ≡ b → (if b then 0 else suc still) ≡ suc still → gains_all behind ≤ gains_all before
    third true is e = absurd (omega (arith, e))
    third false is e = ltb-false (gains_all before) (gains_all behind) is

    second : (b : Bool) → nat_lt 0 repair ≡ b → (if b then still else if nat_lt (gains_all before) (gains_all behind) then 0 else suc still) ≡ suc still → (repair ≡ 0) × (gains_all behind ≤ gains_all before)
    second true is e = absurd (omega (arith, e))
    second false is e = ((let le = ltb-false 0 repair is in omega (arith, le)), third (nat_lt (gains_all before) (gains_all behind)) refl e)

    first : (b : Bool) → (if b then 0 else if nat_lt 0 repair then still else if nat_lt (gains_all before) (gains_all behind) then 0 else suc still) ≡ suc still → (repair ≡ 0) × (gains_all behind ≤ gains_all before)
    first true e = absurd (omega (arith, e))
    first false e = second (nat_lt 0 repair) refl e

module _ (x : Spot → Speech Body Asked Reply) (number : ℕ) (sent back : List (Datagram Body)) where
  abbrev behind : Slave → Under Body Asked Reply → Life Body Asked Reply
  behind c v = back_life x acknowledged is_followed is_passed number back c v

  abbrev Lists : List Slave → List (Under Body Asked Reply) → Type 0
  Lists cs vs = AllUnder x acknowledged is_followed is_passed number sent cs vs

  abbrev pub SameAll : List Slave → List (Under Body Asked Reply) → Type 0
  SameAll (c ∷ cs) (v ∷ vs) = (gains (back_life x acknowledged is_followed is_passed number back c v) ≡ gains c.life) × SameAll cs vs
  SameAll _ _ = ⊤

  grows : (c : Slave) (v : Under Body Asked Reply) → IsUnder x acknowledged is_followed is_passed number sent c v → gains c.life ≤ gains (behind c v)
  grows c v i =
      let same = next_same (x c.spot) acknowledged is_followed is_passed number c.life c.life.stand i.pick in
      let now = back_grows (x c.spot) acknowledged is_followed is_passed number c.spot v.news back v.came v.life v.life.stand in
      omega (arith, same, ap gains i.life, now)

  all_grow : (cs : List Slave) (vs : List (Under Body Asked Reply)) → Lists cs vs → gains_all cs ≤ gains_all (all_back x acknowledged is_followed is_passed number back cs vs)
  all_grow [] [] t = omega arith
  all_grow [] (v ∷ vs) t = absurd t
  all_grow (c ∷ cs) [] t = absurd t
  all_grow (c ∷ cs) (v ∷ vs) t = let one = grows c v t.0 in let rest = all_grow cs vs t.1 in omega (arith, one, rest)

  pub all_same : (cs : List Slave) (vs : List (Under Body Asked Reply)) → AllUnder x acknowledged is_followed is_passed number sent cs vs → gains_all (all_back x acknowledged is_followed is_passed number back cs vs) ≤ gains_all cs → SameAll cs vs
  all_same [] [] t le = tt
  all_same [] (v ∷ vs) t le = absurd t
  all_same (c ∷ cs) [] t le = absurd t
  all_same (c ∷ cs) (v ∷ vs) t le =
      let one = grows c v t.0 in let rest = all_grow cs vs t.1 in (omega (arith, one, rest, le), all_same cs vs t.1 (omega (arith, one, rest, le)))

module _ (lens : ℕ → Lens) where
  -- each slave stands
  abbrev pub IsStanding : SlaveSpec → Option Plan.Service → Slave → Node Serving → Remembered → Waits → Type 0
  IsStanding s next c n m t = Standing (serving (exchange_at lens s)) (table_at lens s) (speech_at lens c.spot) acknowledged c.life (slave_at lens s n) m next t

  abbrev pub AllStanding : List SlaveSpec → List (Option Plan.Service) → List Slave → List (Node Serving) → List Remembered → List Waits → Type 0
  AllStanding [] [] [] [] [] [] = ⊤
  AllStanding (s ∷ ss) (next ∷ nexts) (c ∷ cs) (n ∷ ns) (m ∷ ms) (t ∷ ts) = IsStanding s next c n m t × AllStanding ss nexts cs ns ms ts
  AllStanding _ _ _ _ _ _ = ⊥

  -- ---- where something was gained just now
  pub all_begin : (sent : List (Datagram Body)) (ss : List SlaveSpec) (as' : List Leads) (cs : List Slave) (us : List Turn) (ns : List (Node Serving)) (ms : List Remembered) → AllSeated lens ss as' ns → AreLed as' cs →
      AllEager lens sent ms as' us → AllRepaired cs → AllHand cs → AllStanding ss (nexts_of as') cs ns ms (all_anew cs)
  all_begin sent [] [] [] [] [] [] o l e r h = tt
  all_begin sent [] (a ∷ as') cs us ns ms o l e r h = absurd o
  all_begin sent [] [] (c ∷ cs) us ns ms o l e r h = absurd l
  all_begin sent [] [] [] (u ∷ us) ns [] o l e r h = absurd e
  all_begin sent [] [] [] us (n ∷ ns) ms o l e r h = absurd o
  all_begin sent [] [] [] us [] (m ∷ ms) o l e r h = absurd e
  all_begin sent (s ∷ ss) [] cs us ns ms o l e r h = absurd o
  all_begin sent (s ∷ ss) (a ∷ as') [] us ns ms o l e r h = absurd l
  all_begin sent (s ∷ ss) (a ∷ as') (c ∷ cs) us [] ms o l e r h = absurd o
  all_begin sent (s ∷ ss) (a ∷ as') (c ∷ cs) [] (n ∷ ns) [] o l e r h = absurd e
  all_begin sent (s ∷ ss) (a ∷ as') (c ∷ cs) [] (n ∷ ns) (m ∷ ms) o l e r h = absurd e
  all_begin sent (s ∷ ss) (a ∷ as') (c ∷ cs) (u ∷ us) (n ∷ ns) [] o l e r h = absurd e
  all_begin sent (s ∷ ss) (a ∷ as') (c ∷ cs) (u ∷ us) (n ∷ ns) (m ∷ ms) o l e r h = (
    begins lens s c.spot c.life n
        (λ stands. subst (λ (y : Life Body Asked Reply). IsFit lens s c.spot y n) (sym l.1) (subst (λ (z : Spot). IsFit lens s z a.lived.life n) (sym l.0) (o.0.fits (ap (λ (y : Life Body Asked Reply). y.stand) (sym l.1) ∙ stands))))
        (speech_at lens c.spot) acknowledged m (next_of a) r.0 h.0,
    all_begin sent ss as' cs us ns ms o.1 l.2 e.1 r.1 h.1,
  )

  -- ---- a slave that stands has nothing to repair
  clear_none : (c : Slave) → c.life.stand ≡ Stand.Open → c.life.era.side.halves.inn.state ≡ InState.Clear → way_of 1 1 c.life ≡ None
  clear_none c stands clear = (λ i. stand_way 1 1 (clear i) (stands i))

  one_repaired : (s : SlaveSpec) (next : Option Plan.Service) (c : Slave) (n : Node Serving) (m : Remembered) (t : Waits) → IsStanding s next c n m t → way_of 1 1 c.life ≡ None
  one_repaired s next c n m t (Standing.gone e) = ap (stand_way 1 1 c.life.era.side.halves.inn.state) e
  one_repaired s next c n m t (Standing.fresh k control) = clear_none c k.shows.stands (ap (λ (h : Halves Body). h.inn.state) (sym k.shows.halves) ∙ k.clear)
  one_repaired s next c n m t (Standing.waits k control end held) =
      clear_none c k.waits.shows.stands (ap (λ (h : Halves Body). h.inn.state) (sym k.waits.shows.halves) ∙ (holds (serving (exchange_at lens s)) k.waits.link k.waits.wanted m.memory t k.waits.waits).clear)
  one_repaired s next c n m t (Standing.goes g clear) = clear_none c g.stands clear

  pub repaired : (ss : List SlaveSpec) (nexts : List (Option Plan.Service)) (cs : List Slave) (ns : List (Node Serving)) (ms : List Remembered) (ts : List Waits) → AllStanding ss nexts cs ns ms ts → AllRepaired cs
  repaired [] [] [] [] [] [] k = tt
  repaired [] (z ∷ zs) cs ns ms ts k = absurd k
  repaired [] [] (c ∷ cs) ns ms ts k = absurd k
  repaired [] [] [] (n ∷ ns) ms ts k = absurd k
  repaired [] [] [] [] (m ∷ ms) ts k = absurd k
  repaired [] [] [] [] [] (t ∷ ts) k = absurd k
  repaired (s ∷ ss) [] cs ns ms ts k = absurd k
  repaired (s ∷ ss) (z ∷ zs) [] ns ms ts k = absurd k
  repaired (s ∷ ss) (z ∷ zs) (c ∷ cs) [] ms ts k = absurd k
  repaired (s ∷ ss) (z ∷ zs) (c ∷ cs) (n ∷ ns) [] ts k = absurd k
  repaired (s ∷ ss) (z ∷ zs) (c ∷ cs) (n ∷ ns) (m ∷ ms) [] k = absurd k
  repaired (s ∷ ss) (z ∷ zs) (c ∷ cs) (n ∷ ns) (m ∷ ms) (t ∷ ts) k = (one_repaired s z c n m t k.0, repaired ss zs cs ns ms ts k.1)

  -- ---- BY THE FRAME
  module _ (number : ℕ) (sent back : List (Datagram Body)) where
    -- no mail is heard of any open one
    abbrev pub AllQuiet : List Slave → List (Under Body Asked Reply) → Type 0
    AllQuiet [] [] = ⊤
    AllQuiet (c ∷ cs) (v ∷ vs) = (v.life.stand ≡ Stand.Open → all_accepted c.spot.station v.life.era.side.halves (grams (own c.spot.station back)) ≡ []) × AllQuiet cs vs
    AllQuiet _ _ = ⊥

    abbrev pub On : List Slave → List (Under Body Asked Reply) → List Slave
    On cs vs = all_back (speech_at lens) acknowledged is_followed is_passed number back cs vs

    abbrev pub Then : List Slave → List (Under Body Asked Reply) → List Waits → List Waits
    Then cs vs ts = all_on number cs vs ts

    pub all_quiet : (ss : List SlaveSpec) (as' : List Leads) (cs : List Slave) (vs : List (Under Body Asked Reply)) (nexts : List (Option Plan.Service)) (ns ks : List (Node Serving)) (ms ms' : List Remembered) (ts : List Waits) → AllReady lens number sent back ss as' cs vs nexts ns ks ms ms' ts →
        AllStanding ss (nexts_of as') cs ns ms ts → AllQuiet cs vs
    all_quiet _ _ _ _ _ _ _ _ _ _ AllReady.none k = tt
    all_quiet _ _ _ _ _ _ _ _ _ _ (AllReady.one s ss a as' c cs v vs next' nexts n ns n' ks m ms m' ms' t ts r rs) k =
        (quiet_at lens number sent back s a c v next' n n' m m' t r k.0, all_quiet ss as' cs vs nexts ns ks ms ms' ts rs k.1)

    pub all_stand : (ss : List SlaveSpec) (as' : List Leads) (cs : List Slave) (vs : List (Under Body Asked Reply)) (nexts : List (Option Plan.Service)) (ns ks : List (Node Serving)) (ms ms' : List Remembered) (ts : List Waits) → AllReady lens number sent back ss as' cs vs nexts ns ks ms ms' ts →
        AllGetNone ms ms' → AllStanding ss (nexts_of as') cs ns ms ts → AllStanding ss nexts (On cs vs) ks ms' (Then cs vs ts) × (SomeWaits (On cs vs) (Then cs vs ts) ⊎ AllRest lens ss ms as' ns)
    all_stand _ _ _ _ _ _ _ _ _ _ AllReady.none g k = (tt, inr tt)
    all_stand _ _ _ _ _ _ _ _ _ _ (AllReady.one s ss a as' c cs v vs next' nexts n ns n' ks m ms m' ms' t ts r rs) g k =
        let one = stands_on lens number sent back s a c v next' n n' m m' t r g.0 k.0 in
        let rest = all_stand ss as' cs vs nexts ns ks ms ms' ts rs g.1 k.1 in (
          (one.0, rest.0),
          elim one.1 [
            | inl waits ↦ inl (inl waits)
            | inr done ↦ elim rest.1 [ inl later ↦ inl (inr later) | inr others ↦ inr (done, others) ]
          ],
        )
