-- One slave of a ring, by its own datagrams alone.
use Rattle.std.proofs.Common.{◌≡◌, ℕ, zero, suc, ◌-◌, ◌==◌, Bool, true, false, List, [], ◌∷◌, ◌++◌, length, refl, ap, sym, ◌∙◌, subst, arith, if◌then◌else◌, eqb-true}
use Rattle.std.proofs.lemmas.Bool.Decides.{nat_tests}
use Rattle.state_model.specs.of_exchange_model.Exchange.{Exchange}
use Rattle.state_model.specs.of_link_model.Segment.{RingFate}
use Rattle.state_model.specs.of_segment_model.Slaves.{Processor, Slave, Datagram, Ring, slave_after, frame_after, all_meet, first_meet, all_back, ring_after, slave_steps, step_at, ring_steps}
use Rattle.life_model.specs.Own.{own, own_fate, own_steps, AllApart}
use Rattle.life_model.specs.Alone.{AllSeen, IsAlone, Reaches, Stands}
use Rattle.life_model.proofs.Owns.{own-slave, own-frame, own-passes}

-- slaves that are apart from a station leave its datagrams
pub apart-leaves : {V M : Type 0} (station : ℕ) (ns : Ring V M) (ds : List (Datagram M)) → AllSeen ns ds → AllApart station ns ds → own station (all_back ns ds) ≡ own station ds
apart-leaves station [] ds seen apart = refl
apart-leaves station (n ∷ ns) ds seen apart = apart-leaves station ns (frame_after n.0 n.1 ds) seen.1 apart.2 ∙ own-passes station n.0 n.1 ds apart.0 seen.0 apart.1

all_back-append : {V M : Type 0} (ms ns : Ring V M) (ds : List (Datagram M)) → all_back (ms ++ ns) ds ≡ all_back ns (all_back ms ds)
all_back-append [] ns ds = refl
all_back-append (m ∷ ms) ns ds = all_back-append ms ns (frame_after m.0 m.1 ds)

all_meet-append : {V M : Type 0} (ms ns : Ring V M) (ds : List (Datagram M)) → all_meet (ms ++ ns) ds ≡ all_meet ms ds ++ all_meet ns (all_back ms ds)
all_meet-append [] ns ds = refl
all_meet-append (m ∷ ms) ns ds = ap (λ l. (m.0, slave_after m.0 m.1 ds) ∷ l) (all_meet-append ms ns (frame_after m.0 m.1 ds))

first_meet-append : {V M : Type 0} (after : ℕ) (ms ns : Ring V M) (ds : List (Datagram M)) → first_meet after (ms ++ ns) ds ≡ first_meet after ms ds ++ first_meet (after - length ms) ns (all_back ms ds)
first_meet-append zero [] ns ds = refl
first_meet-append (suc k) [] ns ds = ap (λ j. first_meet j ns ds) (let same : suc k ≡ suc k - 0 = omega arith in same)
first_meet-append zero (m ∷ ms) ns ds = ap (λ k. m ∷ (ms ++ first_meet k ns (all_back (m ∷ ms) ds))) (let same : 0 ≡ 0 - suc (length ms) = omega arith in same)
first_meet-append (suc k) (m ∷ ms) ns ds =
    ap (λ l. (m.0, slave_after m.0 m.1 ds) ∷ l) (first_meet-append k ms ns (frame_after m.0 m.1 ds)
    ∙ ap (λ j. first_meet k ms (frame_after m.0 m.1 ds) ++ first_meet j ns (all_back ms (frame_after m.0 m.1 ds))) (let same : k - length ms ≡ suc k - suc (length ms) = omega arith in same))

-- what comes back for it is what it makes of its own datagrams
pub alone-back : {V M : Type 0} (station : ℕ) (before : Ring V M) (s : Slave V M) (behind : Ring V M) (ds : List (Datagram M)) → IsAlone station before s behind ds →
    own station (all_back (before ++ (station, s) ∷ behind) ds) ≡ all_back ((station, s) ∷ []) (own station ds)
alone-back station before s behind ds a =
    ap (own station) (all_back-append before ((station, s) ∷ behind) ds)
    ∙ apart-leaves station behind (frame_after station s (all_back before ds)) a.behind_seen a.behind_apart
    ∙ own-frame station s (all_back before ds) a.seen a.is_open
    ∙ ap (frame_after station s) (apart-leaves station before ds a.before_seen a.before_apart)

-- the slave behind the frame
alone-met : {V M : Type 0} (station : ℕ) (before : Ring V M) (s : Slave V M) (behind : Ring V M) (ds : List (Datagram M)) → IsAlone station before s behind ds →
    slave_after station s (all_back before ds) ≡ slave_after station s (own station ds)
alone-met station before s behind ds a =
    own-slave station s (all_back before ds) a.seen a.is_open ∙ ap (slave_after station s) (apart-leaves station before ds a.before_seen a.before_apart)

all_meet-length : {V M : Type 0} (ns : Ring V M) (ds : List (Datagram M)) → length (all_meet ns ds) ≡ length ns
all_meet-length [] ds = refl
all_meet-length (n ∷ ns) ds = ap suc (all_meet-length ns (frame_after n.0 n.1 ds))

first_meet-length : {V M : Type 0} (after : ℕ) (ns : Ring V M) (ds : List (Datagram M)) → length (first_meet after ns ds) ≡ length ns
first_meet-length zero ns ds = refl
first_meet-length (suc k) [] ds = refl
first_meet-length (suc k) (n ∷ ns) ds = ap suc (first_meet-length k ns (frame_after n.0 n.1 ds))

pub alone-after : {V M : Type 0} (station place : ℕ) (before : Ring V M) (s : Slave V M) (behind : Ring V M) (ds : List (Datagram M)) (fate : RingFate) → length before ≡ place → (Reaches place fate → IsAlone station before s behind ds) →
    Stands station place (ring_after (before ++ (station, s) ∷ behind) ds fate) (ring_after ((station, s) ∷ []) (own station ds) (own_fate place fate))
alone-after station place before s behind ds RingFate.Back at alone = let a = alone tt in record {
  before = all_meet before ds;
  slave = slave_after station s (own station ds);
  behind = all_meet behind (frame_after station s (all_back before ds));
  at = all_meet-length before ds ∙ at;
  whole_is = all_meet-append before ((station, s) ∷ behind) ds ∙ ap (λ t. all_meet before ds ++ (station, t) ∷ all_meet behind (frame_after station s (all_back before ds))) (alone-met station before s behind ds a);
  one_is = refl;
}
alone-after station place before s behind ds (RingFate.Lost after) at alone =
    go (after - place) refl (first_meet-append after before ((station, s) ∷ behind) ds ∙ ap (λ k. first_meet after before ds ++ first_meet (after - k) ((station, s) ∷ behind) (all_back before ds)) at)
  where
    go : (k : ℕ) → after - place ≡ k → first_meet after (before ++ (station, s) ∷ behind) ds ≡ first_meet after before ds ++ first_meet k ((station, s) ∷ behind) (all_back before ds) →
        Stands station place (first_meet after (before ++ (station, s) ∷ behind) ds) (first_meet k ((station, s) ∷ []) (own station ds))
    go zero is e = record {
      before = first_meet after before ds;
      slave = s;
      behind = behind;
      at = first_meet-length after before ds ∙ at;
      whole_is = e;
      one_is = refl;
    }
    go (suc k) is e = record {
      before = first_meet after before ds;
      slave = slave_after station s (own station ds);
      behind = first_meet k behind (frame_after station s (all_back before ds));
      at = first_meet-length after before ds ∙ at;
      whole_is = e ∙ ap (λ t. first_meet after before ds ++ (station, t) ∷ first_meet k behind (frame_after station s (all_back before ds))) (alone-met station before s behind ds (alone (omega (arith, is))));
      one_is = none k;
    }
      where
        none : (j : ℕ) → (station, slave_after station s (own station ds)) ∷ first_meet j [] (frame_after station s (own station ds)) ≡ (station, slave_after station s (own station ds)) ∷ []
        none zero = refl
        none (suc j) = refl

-- THE STEPS of a ring's processors are for it its own
step_at-other : {V A M Q R : Type 0} (x : Exchange V A M Q R) (processor : Processor V) (station place k : ℕ) (whole one : Ring V M) → (k == place) ≡ false →
    Stands station place whole one → Stands station place (step_at x processor k whole) one
step_at-other {V} {M = M} x processor station place k whole one other s =
    go k place s.before other s.at (λ ms e f. record { before = ms; slave = s.slave; behind = s.behind; at = e; whole_is = ap (step_at x processor k) s.whole_is ∙ f; one_is = s.one_is })
    (λ bs f. record { before = s.before; slave = s.slave; behind = bs; at = s.at; whole_is = ap (step_at x processor k) s.whole_is ∙ f; one_is = s.one_is })
  where
    go : {X : Type 0} (j p : ℕ) (ms : Ring V M) → (j == p) ≡ false → length ms ≡ p →
        ((ns : Ring V M) → length ns ≡ p → step_at x processor j (ms ++ (station, s.slave) ∷ s.behind) ≡ ns ++ (station, s.slave) ∷ s.behind → X) →
        ((bs : Ring V M) → step_at x processor j (ms ++ (station, s.slave) ∷ s.behind) ≡ ms ++ (station, s.slave) ∷ bs → X) → X
    go zero p [] nay e left right = absurd (let same : 0 ≡ p = e in grind (arith, nat_tests, nay, same))
    go zero p (m ∷ ms) nay e left right = left ((m.0, slave_steps x processor m.1) ∷ ms) e refl
    go (suc j) p [] nay e left right = right (step_at x processor j s.behind) refl
    go (suc j) zero (m ∷ ms) nay e left right = absurd (omega (arith, e))
    go (suc j) (suc p) (m ∷ ms) nay e left right = go j p ms (grind (arith, nat_tests, nay)) (omega (arith, e)) (λ ns le f. left (m ∷ ns) (ap suc le) (ap (λ l. m ∷ l) f)) (λ bs f. right bs (ap (λ l. m ∷ l) f))

step_at-own : {V A M Q R : Type 0} (x : Exchange V A M Q R) (processor : Processor V) (station place : ℕ) (whole one : Ring V M) → Stands station place whole one →
    Stands station place (step_at x processor place whole) (step_at x processor 0 one)
step_at-own {V} {M = M} x processor station place whole one s = record {
  before = s.before;
  slave = slave_steps x processor s.slave;
  behind = s.behind;
  at = s.at;
  whole_is = ap (step_at x processor place) s.whole_is ∙ go place s.before s.at;
  one_is = ap (step_at x processor 0) s.one_is;
}
  where
    go : (p : ℕ) (ms : Ring V M) → length ms ≡ p → step_at x processor p (ms ++ (station, s.slave) ∷ s.behind) ≡ ms ++ (station, slave_steps x processor s.slave) ∷ s.behind
    go zero [] e = refl
    go zero (m ∷ ms) e = absurd (omega (arith, e))
    go (suc p) [] e = absurd (omega (arith, e))
    go (suc p) (m ∷ ms) e = ap (λ l. m ∷ l) (go p ms (omega (arith, e)))

pub alone-steps : {V A M Q R : Type 0} (x : Exchange V A M Q R) (processor : Processor V) (station place : ℕ) (ks : List ℕ) (whole one : Ring V M) → Stands station place whole one →
    Stands station place (ring_steps x processor whole ks) (ring_steps x processor one (own_steps place ks))
alone-steps x processor station place [] whole one s = s
alone-steps {V} {M = M} x processor station place (k ∷ ks) whole one s =
    go (k == place) refl (λ t. alone-steps x processor station place ks (step_at x processor k whole) (step_at x processor 0 one) t) (λ t. alone-steps x processor station place ks (step_at x processor k whole) one t)
  where
    Goal : List ℕ → Type 0
    Goal l = Stands station place (ring_steps x processor (step_at x processor k whole) ks) (ring_steps x processor one l)

    go : (b : Bool) → (k == place) ≡ b → (Stands station place (step_at x processor k whole) (step_at x processor 0 one) → Goal (0 ∷ own_steps place ks)) →
        (Stands station place (step_at x processor k whole) one → Goal (own_steps place ks)) → Goal (if b then 0 ∷ own_steps place ks else own_steps place ks)
    go true is own_ other =
        let same : k ≡ place = eqb-true k place is in own_ (subst (λ j. Stands station place (step_at x processor j whole) (step_at x processor 0 one)) (sym same) (step_at-own x processor station place whole one s))
    go false is own_ other = other (step_at-other x processor station place k whole one is s)
