-- A FRAME AND THE STEPS BEHIND IT, for a slave alone in its ring, where it is seen what is meant by mails.
use Rattle.std.proofs.Common.{◌≡◌, ℕ, zero, suc, ◌≤◌, List, [], ◌∷◌, ◌++◌, refl, ap, ap₂, sym, ◌∙◌, arith}
use Rattle.master_hand.specs.of_exchange_model.Exchange.{Exchange}
use Rattle.few_replies.specs.of_link_model.Segment.{RingFate}
use Rattle.master_hand.specs.of_segment_model.Slaves.{Processor, Datagram, Slave, Ring, grams, slave_after, frame_after, first_meet, ring_after, ring_back, slave_steps, step_at, ring_steps}
use Rattle.master_hand.specs.of_serving_model.Erasing.{slave_as, all_as}
use Rattle.few_replies.proofs.of_serving_model.Erasing.{slave_after-as, frame_after-as}
use Rattle.life_counts.proofs.Frames.{ToIt, frame_to}
use Rattle.life_counts.proofs.Overs.{asks, after_asks}

none_meet : {V M : Type 0} (k : ℕ) (ds : List (Datagram M)) → ◌≡◌ {A = Ring V M} (first_meet k [] ds) []
none_meet zero ds = refl
none_meet (suc k) ds = refl

module _ {N M W V : Type 0} (f : N → M) (h : W → V) (station : ℕ) (m : Slave W N) (ds : List (Datagram N)) where
  -- THE SLAVE BEHIND THE FRAME, and what came back of it
  pub record Met (fate : RingFate) : Type 0 where
    pub slave : Slave W N
    pub ring : ring_after ((station, m) ∷ []) ds fate ≡ (station, slave) ∷ []
    pub other : ring_after ((station, slave_as f h m) ∷ []) (all_as f ds) fate ≡ (station, slave_as f h slave) ∷ []
    pub back : all_as f (ring_back ((station, m) ∷ []) ds fate) ≡ ring_back ((station, slave_as f h m) ∷ []) (all_as f ds) fate
    pub to : ToIt station ds → ToIt station (ring_back ((station, m) ∷ []) ds fate)
    pub few : asks station (grams (ring_back ((station, m) ∷ []) ds fate)) ≤ asks station (grams ds)

  behind : Slave W N
  behind = slave_after station m ds

  pub met : (fate : RingFate) → Met fate
  met RingFate.Back = record {
    slave = slave_after station m ds;
    ring = refl;
    other = ap (λ (s : Slave V M). (station, s) ∷ []) (sym (slave_after-as f h station m ds));
    back = frame_after-as f h station m ds;
    to = λ all. frame_to station station m ds all;
    few = let e = after_asks station station m ds in omega (arith, e);
  }
  met (RingFate.Lost zero) = record { slave = m; ring = refl; other = refl; back = refl; to = λ all. tt; few = omega arith }
  met (RingFate.Lost (suc k)) = record {
    slave = slave_after station m ds;
    ring = ap (λ (r : Ring W N). (station, slave_after station m ds) ∷ r) (none_meet k (frame_after station m ds));
    other = ap₂ (λ (s : Slave V M) (r : Ring V M). (station, s) ∷ r) (sym (slave_after-as f h station m ds)) (none_meet k (frame_after station (slave_as f h m) (all_as f ds)));
    back = refl;
    to = λ all. tt;
    few = omega arith;
  }

steps_append : {V A M Q R : Type 0} (x : Exchange V A M Q R) (processor : Processor V) (ns : Ring V M) (ks js : List ℕ) → ring_steps x processor ns (ks ++ js) ≡ ring_steps x processor (ring_steps x processor ns ks) js
steps_append x processor ns [] js = refl
steps_append x processor ns (k ∷ ks) js = steps_append x processor (step_at x processor k ns) ks js

module _ {N M W V A B P Q R S : Type 0} (f : N → M) (h : W → V) (station : ℕ) (y : Exchange W B N P R) (seer : Processor W) (u : Exchange V A M Q S) (processor : Processor V) (first : Slave W N) where
  -- steps bring it so far
  pub record Comes (m : Slave W N) : Type 0 where
    pub steps : List ℕ
    pub ring : ring_steps y seer ((station, first) ∷ []) steps ≡ (station, m) ∷ []

  -- THE SLAVE BEHIND THE STEPS
  pub record Stepped (from : Slave W N) (ks : List ℕ) : Type 0 where
    pub slave : Slave W N
    pub comes : Comes slave
    pub ring : ring_steps y seer ((station, from) ∷ []) ks ≡ (station, slave) ∷ []
    pub other : ring_steps u processor ((station, slave_as f h from) ∷ []) ks ≡ (station, slave_as f h slave) ∷ []

  pub steps : ((m : Slave W N) → Comes m → slave_as f h (slave_steps y seer m) ≡ slave_steps u processor (slave_as f h m)) → (ks : List ℕ) (from : Slave W N) → Comes from → Stepped from ks
  steps one [] from c = record { slave = from; comes = c; ring = refl; other = refl }
  steps one (zero ∷ ks) from c =
      let next = slave_steps y seer from in
      let on : Comes next = record { steps = c.steps ++ 0 ∷ []; ring = steps_append y seer ((station, first) ∷ []) c.steps (0 ∷ []) ∙ ap (λ (r : Ring W N). step_at y seer 0 r) c.ring } in
      let k = steps one ks next on in
      record { slave = k.slave; comes = k.comes; ring = k.ring; other = ap (λ (s : Slave V M). ring_steps u processor ((station, s) ∷ []) ks) (sym (one from c)) ∙ k.other }
  steps one (suc j ∷ ks) from c = let k = steps one ks from c in record { slave = k.slave; comes = k.comes; ring = k.ring; other = k.other }
