-- When what is noted of all slaves happened, one after the other.
use Rattle.std.proofs.Common.{◌≡◌, ◌⊎◌, inl, inr, ◌==◌, ◌<◌, ◌≤◌, ◌+◌, ℕ, zero, suc, ◌-◌, Bool, true, false, List, [], ◌∷◌, ◌++◌, length, length-append, get_or, refl, sym, ap, ◌∙◌, subst, arith, append-nil, false-eqb}
use Rattle.std.specs.Prelude.{nat_lt, if◌then◌else◌, Option, Some, None, slice_get, slice_set, slice_index_or}
use Rattle.std.proofs.lemmas.Bool.{lt-ltb, le-ltb, ltb-true, ltb-false, eqb-true, eq-eqb}
use Rattle.std.proofs.lemmas.List.Elements.{All-get_or, All-cons, All-head, All-nil}
use Rattle.run_book.specs.of_eoe_switch.declared.switching.SwitchEvent.{SwitchEvent}
use Rattle.run_book.specs.of_eoe_switch.declared.switching.SwitchEvent.TheVariants.{Arrive, Begun, Down}
use Rattle.run_book.specs.of_master_node.Made.{AreOfMaking, IsOfMaking}
use Rattle.run_book.specs.of_master_node.declared.happened.Happening.{Happening}
use Rattle.run_book.specs.declared.book.Book.{Book}
use Rattle.run_book.specs.declared.book.SlaveBook.{SlaveBook}
use Rattle.run_notes.specs.Counted.{AreDated, IsDated, comes_from, is_from, is_there, numbers_from}
use Rattle.run_notes.specs.Notes.{new_notes, received}
use Rattle.run_notes.specs.Slaves.{SameSlaves, first_notes, scripted, slave_row, slave_rows}
use Rattle.run_notes.specs.Switched.{SameSwitch}
use Rattle.run_notes.specs.Times.{AllTimed, Goes, GoesBehind, IsTimed, IsTimedBy, KeepsTime, MayHappen, ReceivesAt, Time, TimeGoes, TimesGo, behind, between, making, seen_to}
use Rattle.run_notes.specs.declared.notes.Notes.{Notes}
use Rattle.run_notes.specs.declared.standing.Log.{Log}
use Rattle.run_notes.proofs.Handings.{each_set, none_got}
use Rattle.run_notes.proofs.Times.{time_back, time_first, time_made, time_over, time_received, time_row, time_same}
use Rattle.run_book.specs.of_segment_plan.declared.service.Service.{Service}
use Rattle.run_book.specs.of_segment_plan.declared.slave.SlaveSpec.{SlaveSpec}
use Rattle.run_book.specs.of_slave_node.Node.{Node}
use Rattle.run_book.specs.of_slave_server.declared.server.SlaveServer.{SlaveServer}

-- ---- one slave

goes_set : (from to : ℕ → Time) (notes : List Notes) (at : ℕ) (d m : Notes) → d ≡ slice_index_or notes at d → Goes (from at) (to at) d m → ((k : ℕ) → (k ≡ at → ⊥) → (n : Notes) → Goes (from k) (to k) n n) → TimeGoes from to notes (slice_set notes at m)
goes_set from to notes at d m e g h = λ packets all k n is.
    let x = each_set (λ k n n'. Goes (from k) (to k) n n') notes at d m e g h k n is in
    x.2 (packets k) (all k x.0 x.1)

pub keeps_set : (t : Time) (notes : List Notes) (at : ℕ) (d m : Notes) → d ≡ slice_index_or notes at d → Goes t t d m → KeepsTime t notes (slice_set notes at m)
keeps_set t notes at d m e g = goes_set (λ k. t) (λ k. t) notes at d m e g (λ k away n. time_same t n)

further : (k at : ℕ) (b : Bool) → (k == at) ≡ b → at ≤ k → (k ≡ at → ⊥) → suc at ≤ k
further k at true f l away = absurd (away (eqb-true k at f))
further k at false f l away = let other = false-eqb k at (sym f) in omega (arith, other, l)

same_seen : (k at : ℕ) → (k ≡ at → ⊥) → nat_lt k at ≡ nat_lt k (suc at)
same_seen k at away = go (nat_lt k at) refl
  where
    go : (b : Bool) → nat_lt k at ≡ b → nat_lt k at ≡ nat_lt k (suc at)
    go true f = f ∙ sym (lt-ltb k (suc at) (let l = ltb-true k at f in omega (arith, l)))
    go false f = f ∙ sym (le-ltb k (suc at) (further k at (k == at) refl (ltb-false k at f) away))

-- it is seen behind a frame
pub seen_set : (frame : ℕ) (notes : List Notes) (at : ℕ) (d m : Notes) → d ≡ slice_index_or notes at d → Goes (behind frame) (between (suc frame)) d m → TimeGoes (seen_to frame at) (seen_to frame (suc at)) notes (slice_set notes at m)
seen_set frame notes at d m e g =
    goes_set (seen_to frame at) (seen_to frame (suc at)) notes at d m e
    (subst (λ (b : Bool). Goes (if b then between (suc frame) else behind frame) (seen_to frame (suc at) at) d m) (sym (le-ltb at at (omega arith)))
    (subst (λ (b : Bool). Goes (behind frame) (if b then between (suc frame) else behind frame) d m) (sym (lt-ltb at (suc at) (omega arith))) g))
    (λ k away n. subst (λ (b : Bool). Goes (seen_to frame at k) (if b then between (suc frame) else behind frame) n n) (same_seen k at away) (time_same (seen_to frame at k) n))

-- before the first, and behind the last
pub seen_first : (frame : ℕ) (notes : List Notes) → TimeGoes (λ k. behind frame) (seen_to frame 0) notes notes
seen_first frame notes = λ packets all k n is. subst (λ (b : Bool). IsTimed (if b then between (suc frame) else behind frame) (packets k) n) (sym (le-ltb k 0 (omega arith))) (all k n is)

inside : (notes : List Notes) (k : ℕ) (n : Notes) → slice_get notes k ≡ Some n → k < length notes
inside [] k n is = none_got k n is
inside (o ∷ notes) zero n is = omega arith
inside (o ∷ notes) (suc k) n is = let l = inside notes k n is in omega (arith, l)

pub seen_last : (frame place : ℕ) (old notes : List Notes) → length notes ≤ place → TimeGoes (λ k. behind frame) (seen_to frame place) old notes → GoesBehind frame old notes
seen_last frame place old notes over g = λ packets all k n is.
    subst (λ (b : Bool). IsTimed (if b then between (suc frame) else behind frame) (packets k) n) (lt-ltb k place (let l = inside notes k n is in omega (arith, l, over))) (g packets all k n is)

-- ---- all of them

pub goes_then : (r s t : ℕ → Time) (a b c : List Notes) → TimeGoes r s a b → TimeGoes s t b c → TimeGoes r t a c
goes_then r s t a b c f g = λ packets all. g packets (f packets all)

pub all_go : (t u : Time) → ((n : Notes) → Goes t u n n) → (a b : List Notes) → KeepsTime t a b → TimeGoes (λ k. t) (λ k. u) a b
all_go t u h a b f = λ packets all k n is. h n (packets k) (f packets all k n is)

pub over_behind : (frame : ℕ) (a b : List Notes) → KeepsTime (behind frame) a b → GoesBehind frame a b
over_behind frame a b f = all_go (behind frame) (between (suc frame)) (λ n. time_over frame n) a b f

-- ---- the switch

number_on : (m : ℕ) (b : Bool) (ns ms more : List ℕ) → ns ≡ ms ++ more → (if b then m ∷ ns else ns) ≡ (if b then m ∷ ms else ms) ++ more
number_on m true ns ms more e = ap (λ z. m ∷ z) e
number_on m false ns ms more e = e

numbers_push : (ports : List ℕ) (slave : ℕ) (es : List SwitchEvent) (ns : List ℕ) (e : SwitchEvent) (n : ℕ) → length ns ≡ length es → numbers_from ports slave (es ++ e ∷ []) (ns ++ n ∷ []) ≡ numbers_from ports slave es ns ++ (if comes_from ports slave e then n ∷ [] else [])
numbers_push ports slave [] [] e n same = refl
numbers_push ports slave [] (m ∷ ns) e n same = absurd (omega (arith, same))
numbers_push ports slave (d ∷ es) [] e n same = absurd (omega (arith, same))
numbers_push ports slave (d ∷ es) (m ∷ ns) e n same = number_on m (comes_from ports slave d) _ (numbers_from ports slave es ns) (if comes_from ports slave e then n ∷ [] else []) (numbers_push ports slave es ns e n (omega (arith, same)))

-- an event by which no packet comes in
abbrev pub IsQuiet : List ℕ → SwitchEvent → Type 0
IsQuiet ports e = (k : ℕ) → comes_from ports k e ≡ false

module _ (t : Time) (ports : List ℕ) (b b' : Book) (event : SwitchEvent) (sent : ℕ) (switch : b'.switch ≡ b.switch ++ event ∷ []) (switched : b'.switched ≡ b.switched ++ sent ∷ []) (old : List Notes) (h : IsTimedBy t ports b old) where
  many_more : length b'.switched ≡ length b'.switch
  many_more = let e = ap length switch ∙ length-append b.switch (event ∷ []) in let f = ap length switched ∙ length-append b.switched (sent ∷ []) in let m = h.many in omega (arith, e, f, m)

  numbers_now : (k : ℕ) → numbers_from ports k b'.switch b'.switched ≡ numbers_from ports k b.switch b.switched ++ (if comes_from ports k event then sent ∷ [] else [])
  numbers_now k = (λ i. numbers_from ports k (switch i) (switched i)) ∙ numbers_push ports k b.switch b.switched event sent h.many

  -- each slave by whether it came from it
  one_more : (k : ℕ) (c : Bool) → (c ≡ true → (sent ≤ t.back) × (t.epochs < sent)) → (n n' : Notes) → n' ≡ (if c then received n else n) → IsTimed t (numbers_from ports k b.switch b.switched) n → IsTimed t (numbers_from ports k b.switch b.switched ++ (if c then sent ∷ [] else [])) n'
  one_more k true may n n' is x = let l = may refl in subst (λ (z : Notes). IsTimed t (numbers_from ports k b.switch b.switched ++ sent ∷ []) z) (sym is) (time_received t (numbers_from ports k b.switch b.switched) sent n l.0 l.1 x)
  one_more k false may n n' is x = subst (λ (z : Notes). IsTimed t (numbers_from ports k b.switch b.switched ++ []) z) (sym is) (subst (λ (z : List ℕ). IsTimed t z n) (sym (append-nil (numbers_from ports k b.switch b.switched))) x)

  pub event_timed : ((k : ℕ) → comes_from ports k event ≡ true → (sent ≤ t.back) × (t.epochs < sent)) → (new : List Notes) →
      ((k : ℕ) (n' : Notes) → slice_get new k ≡ Some n' → (n : Notes) × (slice_get old k ≡ Some n) × (n' ≡ (if comes_from ports k event then received n else n))) → IsTimedBy t ports b' new
  event_timed may new each = record {
    many = many_more;
    timed = λ k n' is.
        let x = each k n' is in
        subst (λ (z : List ℕ). IsTimed t z n') (sym (numbers_now k)) (one_more k (comes_from ports k event) (may k) x.0 n' x.2 (h.timed k x.0 x.1));
  }

-- while a frame is made none comes in from a slave
quiet_making : (ports : List ℕ) (e : SwitchEvent) → IsOfMaking e → IsQuiet ports e
quiet_making ports (Arrive port packet) is k = ap (λ (p : ℕ). is_from ports p k) is
quiet_making ports (Begun port) is k = refl
quiet_making ports (Down port) is k = absurd is

-- so it may come in
pub may_come : (t : Time) (ports : List ℕ) (sent : ℕ) (r : Happening) → MayHappen t sent (r ∷ []) → (k : ℕ) → comes_from ports k r.event ≡ true → (sent ≤ t.back) × (t.epochs < sent)
may_come t ports sent r may k comes = by may.1
  where
    by : (AreOfMaking (r ∷ [])) ⊎ (t.epochs < sent) → (sent ≤ t.back) × (t.epochs < sent)
    by (inl made) = absurd (let q = quiet_making ports r.event (All-head (λ (z : Happening). IsOfMaking z.event) r [] made) k in let bad : true ≡ false = sym comes ∙ q in cc)
    by (inr later) = (may.0, later)

-- one of these
pub may_one : (t : Time) (sent : ℕ) (rows : List Happening) (k : ℕ) (r : Happening) → k < length rows → r ≡ get_or rows k r → MayHappen t sent rows → MayHappen t sent (r ∷ [])
may_one t sent rows k r l is may = (may.0, by may.1)
  where
    by : AreOfMaking rows ⊎ (t.epochs < sent) → AreOfMaking (r ∷ []) ⊎ (t.epochs < sent)
    by (inl made) =
        inl (All-cons (λ (z : Happening). IsOfMaking z.event) r [] (subst (λ (z : Happening). IsOfMaking z.event) (sym is) (All-get_or (λ (z : Happening). IsOfMaking z.event) rows k r l made)) (All-nil (λ (z : Happening). IsOfMaking z.event)))
    by (inr later) = inr later

-- a slave is at a port
from_at : (ports : List ℕ) (port k : ℕ) (o : Option ℕ) → (port ≡ 0 → ⊥) → o ≡ slice_get ports (port - 1) → is_from ports port k ≡ is_there o k
from_at ports zero k o away e = absurd (away refl)
from_at ports (suc port) k o away e = ap (λ z. is_there z k) (let same : suc port - 1 ≡ port = omega arith in ap (slice_get ports) (sym same) ∙ sym e)

-- none comes in at the host's
pub host_receives : (ports : List ℕ) (port : ℕ) (notes : List Notes) → port ≡ 0 → ReceivesAt ports port notes notes
host_receives ports port notes e = λ k n is. (n, is, ap (λ (p : ℕ). if is_from ports p k then received n else n) (sym e))

pub none_receives : (ports : List ℕ) (port : ℕ) (notes : List Notes) → (port ≡ 0 → ⊥) → None ≡ slice_get ports (port - 1) → ReceivesAt ports port notes notes
none_receives ports port notes away e = λ k n is. (n, is, ap (λ (b : Bool). if b then received n else n) (sym (from_at ports port k None away e)))

apart : (at k : ℕ) → (k ≡ at → ⊥) → (at == k) ≡ false
apart at k away = go (at == k) refl
  where
    go : (b : Bool) → (at == k) ≡ b → (at == k) ≡ false
    go true f = absurd (away (sym (eqb-true at k f)))
    go false f = f

pub past_receives : (ports : List ℕ) (port at : ℕ) (notes : List Notes) → (port ≡ 0 → ⊥) → Some at ≡ slice_get ports (port - 1) → length notes ≤ at → ReceivesAt ports port notes notes
past_receives ports port at notes away e over = λ k n is. (
  n,
  is,
  ap (λ (b : Bool). if b then received n else n) (sym (from_at ports port k (Some at) away e ∙ apart at k (λ same. let l = inside notes k n is in absurd (omega (arith, l, over, same))))),
)

pub one_receives : (ports : List ℕ) (port at : ℕ) (notes : List Notes) (d m : Notes) → (port ≡ 0 → ⊥) → Some at ≡ slice_get ports (port - 1) → d ≡ slice_index_or notes at d → m ≡ received d → ReceivesAt ports port notes (slice_set notes at m)
one_receives ports port at notes d m away e lent is =
    each_set (λ k n n'. n' ≡ (if is_from ports port k then received n else n)) notes at d m lent (is ∙ ap (λ (b : Bool). if b then received d else d) (sym (from_at ports port at (Some at) away e ∙ eq-eqb at at refl)))
    (λ k off n. ap (λ (b : Bool). if b then received n else n) (sym (from_at ports port k (Some at) away e ∙ apart at k off)))

-- ---- one behind another

timed_at : (t : Time) (ports ports' : List ℕ) (b : Book) (notes : List Notes) → ports' ≡ ports → IsTimedBy t ports b notes → IsTimedBy t ports' b notes
timed_at t ports ports' b notes same h = subst (λ (z : List ℕ). IsTimedBy t z b notes) (sym same) h

-- what happened at the switch behind something else
pub times_after : (from s to : Time) (sent : ℕ) (rows : List Happening) (a b c : Log) (x y : Book) → SameSlaves a b → TimeGoes (λ k. from) (λ k. s) a.notes b.notes → (MayHappen from sent rows → MayHappen s sent rows) → TimesGo s to sent rows x b y c → TimesGo from to sent rows x a y c
times_after from s to sent rows a b c x y same goes may times = λ m h.
    timed_at to b.ports a.ports y c.notes (sym same.ports) (times (may m) (timed_at s a.ports b.ports x b.notes same.ports (record { many = h.many; timed = goes (λ k. numbers_from a.ports k x.switch x.switched) h.timed })))

-- and before
pub times_before : (from s to : Time) (sent : ℕ) (rows : List Happening) (a b c : Log) (x y : Book) → TimesGo from s sent rows x a y b → TimeGoes (λ k. s) (λ k. to) b.notes c.notes → TimesGo from to sent rows x a y c
times_before from s to sent rows a b c x y times goes = λ m h. let k = times m h in record { many = k.many; timed = goes (λ k. numbers_from a.ports k y.switch y.switched) k.timed }

-- one of these behind others
pub times_next : (t : Time) (sent : ℕ) (rows : List Happening) (k : ℕ) (r : Happening) (a b c : Log) (x y z : Book) → k < length rows → r ≡ get_or rows k r → SameSlaves a b → TimesGo t t sent rows x a y b → TimesGo t t sent (r ∷ []) y b z c → TimesGo t t sent rows x a z c
times_next t sent rows k r a b c x y z l is same times one = λ m h.
    timed_at t b.ports a.ports z c.notes (sym same.ports) (one (may_one t sent rows k r l is m) (timed_at t a.ports b.ports y b.notes same.ports (times m h)))

-- ---- before the first frame, and at the end

pub first_timed : (services : List (ℕ × Service)) (number : ℕ) (ss : List SlaveSpec) (packets : ℕ → List ℕ) → ((k : ℕ) → packets k ≡ []) → AllTimed (λ k. between 0) packets (first_notes services number ss)
first_timed services number [] packets none k n is = none_got k n is
first_timed services number (s ∷ ss) packets none zero n is =
    let same : new_notes (scripted services number) ≡ n = cc in subst (λ (z : List ℕ). IsTimed (between 0) z n) (sym (none 0)) (subst (λ (z : Notes). IsTimed (between 0) [] z) same (time_first (scripted services number)))
first_timed services number (s ∷ ss) packets none (suc k) n is = first_timed services (number + 1) ss (λ k. packets (suc k)) (λ k. none (suc k)) k n is

no_row : {P : Type 0} (k : ℕ) (row : SlaveBook) → slice_get [] k ≡ Some row → P
no_row zero row e = absurd (let bad : None ≡ Some row = e in cc)
no_row (suc k) row e = absurd (let bad : None ≡ Some row = e in cc)

pub rows_dated : (recover frames : ℕ) (packets : ℕ → List ℕ) (nodes : List (Node SlaveServer)) (notes : List Notes) → AllTimed (λ k. between frames) packets notes → AreDated frames packets (slave_rows recover nodes notes)
rows_dated recover frames packets [] notes all k row is = no_row k row is
rows_dated recover frames packets (node ∷ nodes) [] all k row is = no_row k row is
rows_dated recover frames packets (node ∷ nodes) (n ∷ notes) all zero row is =
    let same : slave_row recover node n ≡ row = cc in subst (λ (z : SlaveBook). IsDated frames (packets 0) z) same (time_row recover frames (packets 0) node n (all 0 n refl))
rows_dated recover frames packets (node ∷ nodes) (n ∷ notes) all (suc k) row is = rows_dated recover frames (λ k. packets (suc k)) nodes notes (λ k n. all (suc k) n) k row is

-- nothing more is noted of the switch
pub timed_same : (t : Time) (ports : List ℕ) (b b' : Book) (notes : List Notes) → SameSwitch b b' → IsTimedBy t ports b notes → IsTimedBy t ports b' notes
timed_same t ports b b' notes kept h = record {
  many = ap length kept.switched ∙ h.many ∙ sym (ap length kept.switch);
  timed = λ k n is. subst (λ (z : List ℕ). IsTimed t z n) (λ i. numbers_from ports k (sym kept.switch i) (sym kept.switched i)) (h.timed k n is);
}

-- ---- a step: a frame is made, and then it is over

moved : (t u : Time) → ((n : Notes) → Goes t u n n) → (ports : List ℕ) (b : Book) (notes : List Notes) → IsTimedBy t ports b notes → IsTimedBy u ports b notes
moved t u goes ports b notes h = record { many = h.many; timed = λ k n is. goes n (numbers_from ports k b.switch b.switched) (h.timed k n is) }

pub times_step :
    (number : ℕ) (made over : List Happening) (first mid last : Log) (b b1 b2 b3 : Book) → SameSlaves first mid → SameSlaves mid last → AreOfMaking made → SameSwitch b1 b2 → TimesGo (making number) (making number) number made b first b1 mid
    → TimesGo (behind number) (between (suc number)) (number + 1) over b2 mid b3 last → IsTimedBy (between number) first.ports b first.notes → IsTimedBy (between (suc number)) last.ports b3 last.notes
times_step number made over first mid last b b1 b2 b3 same next only kept before after h =
    let one = before (omega arith, inl only) (moved (between number) (making number) (λ n. time_made number n) first.ports b first.notes h) in
    let two = timed_same (making number) mid.ports b1 b2 mid.notes kept (timed_at (making number) first.ports mid.ports b1 mid.notes same.ports one) in
    timed_at (between (suc number)) mid.ports last.ports b3 last.notes next.ports (after (omega arith, inr (omega arith)) (moved (making number) (behind number) (λ n. time_back number n) mid.ports b2 mid.notes two))
