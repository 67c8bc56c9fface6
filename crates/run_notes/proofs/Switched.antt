-- What is noted of the switch, one thing after the other.
use Rattle.std.proofs.Common.{◌≡◌, ℕ, ◌+◌, ◌<◌, ◌≤◌, List, [], ◌∷◌, ◌++◌, refl, sym, ap, subst, ◌∙◌, arith, length, take, drop, get_or, append_assoc, append-nil, add-one}
use Rattle.std.specs.Prelude.{All}
use Rattle.std.proofs.lemmas.List.{map-append, length-map, take-append-drop, take_all}
use Rattle.std.proofs.lemmas.List.Elements.{All-nil, All-cons, All-head, All-tail, All-get_or}
use Rattle.std.proofs.Math.Seq.{take-suc}
use Rattle.arrayvec.specs.ArrayVec.{ArrayVec}
use Rattle.run_book.specs.of_eoe_switch.Switch.{switched}
use Rattle.run_book.proofs.of_master_node.Happenings.{events_push, handed_push}
use Rattle.run_book.specs.of_master_node.Happened.{events_of, handed_by, handed_in, arrivals_at, NoneWaits, HasHappened, HappensSo}
use Rattle.run_book.specs.of_master_node.declared.happened.Happening.{Happening}
use Rattle.run_book.specs.of_master_node.declared.lan.Lan.{Lan}
use Rattle.run_book.specs.Ports.{ports_of, IsAtPort}
use Rattle.run_book.specs.declared.book.Book.{Book}
use Rattle.run_book.specs.of_segment_plan.declared.plan.Scenario.{Scenario}
use Rattle.run_notes.specs.declared.standing.Log.{Log}
use Rattle.run_notes.specs.Slaves.{SameSlaves}
use Rattle.run_notes.specs.Switched.{octets_of, Stamp, rows_of, numbers_of, stamp, stamped, NeverFall, HasNoted, NotesSwitch, SameSwitch, IsSwitched, HasPackets}

-- ---- at a port

abbrev pub IsAt : ℕ → Happening → Type 0
IsAt ports r = IsAtPort ports r.event

pub all_rows : (ports : ℕ) (rows : List Happening) → All (IsAtPort ports) (events_of rows) → All (λ (r : Happening). IsAtPort ports r.event) rows
all_rows ports [] a = All-nil (IsAt ports)
all_rows ports (r ∷ rows) a = All-cons (IsAt ports) r rows (All-head (IsAtPort ports) r.event (events_of rows) a) (all_rows ports rows (All-tail (IsAtPort ports) r.event (events_of rows) a))

pub all_last : (ports : ℕ) (rows more : List Happening) → All (λ (r : Happening). IsAtPort ports r.event) (rows ++ more) → All (λ (r : Happening). IsAtPort ports r.event) more
all_last ports [] more a = a
all_last ports (r ∷ rows) more a = all_last ports rows more (All-tail (IsAt ports) r (rows ++ more) a)

-- ---- numbers

rows_stamped : (sent : ℕ) (rows : List Happening) → rows_of (stamped sent rows) ≡ rows
rows_stamped sent [] = refl
rows_stamped sent (r ∷ rows) = ap (λ z. r ∷ z) (rows_stamped sent rows)

rows_more : (sent : ℕ) (before : List Stamp) (rows : List Happening) → rows_of (before ++ stamped sent rows) ≡ rows_of before ++ rows
rows_more sent before rows = map-append (λ (s : Stamp). s.row) before (stamped sent rows) ∙ ap (λ z. rows_of before ++ z) (rows_stamped sent rows)

pub numbers_more : (sent : ℕ) (before : List Stamp) (rows : List Happening) → numbers_of (before ++ stamped sent rows) ≡ numbers_of before ++ numbers_of (stamped sent rows)
numbers_more sent before rows = map-append (λ (s : Stamp). s.sent) before (stamped sent rows)

fall_below : (low mid high : ℕ) (ns : List ℕ) → low ≤ mid → NeverFall mid high ns → NeverFall low high ns
fall_below low mid high [] l f = omega (arith, l, f)
fall_below low mid high (n ∷ ns) l f = (let first = f.0 in omega (arith, l, first), f.1)

fall_on : (low mid high : ℕ) (ns ms : List ℕ) → NeverFall low mid ns → NeverFall mid high ms → NeverFall low high (ns ++ ms)
fall_on low mid high [] ms f g = fall_below low mid high ms f g
fall_on low mid high (n ∷ ns) ms f g = (f.0, fall_on n mid high ns ms f.1 g)

fall_stamped : (low sent : ℕ) (rows : List Happening) → low ≤ sent → NeverFall low sent (numbers_of (stamped sent rows))
fall_stamped low sent [] l = l
fall_stamped low sent (r ∷ rows) l = (l, fall_stamped sent sent rows (omega arith))

-- ---- one more

pub noted_more : (before : List Stamp) (sent : ℕ) (r : Happening) (b b' : Book) → b'.switch ≡ b.switch ++ r.event ∷ [] → b'.switched ≡ b.switched ++ sent ∷ [] → b'.host ≡ b.host ++ octets_of (handed_by r) → HasNoted before b → HasNoted (before ++ stamped sent (r ∷ [])) b'
noted_more before sent r b b' e f g h =
    let rows : rows_of (before ++ stamped sent (r ∷ [])) ≡ rows_of before ++ r ∷ [] = rows_more sent before (r ∷ []) in
    record {
      switch = e ∙ ap (λ z. z ++ r.event ∷ []) h.switch ∙ sym (events_push (rows_of before) r) ∙ sym (ap events_of rows);
      switched = f ∙ ap (λ z. z ++ sent ∷ []) h.switched ∙ sym (numbers_more sent before (r ∷ []));
      host = g ∙ ap (λ z. z ++ octets_of (handed_by r)) h.host ∙ sym (ap octets_of (handed_push (rows_of before) r) ∙ map-append (λ (p : ArrayVec ℕ). p.items) (handed_in (rows_of before)) (handed_by r))
          ∙ sym (ap (λ z. octets_of (handed_in z)) rows);
    }

-- so far in a loop over them
abbrev pub NotesTo : ℕ → ℕ → List Happening → ℕ → Book → Book → Type 0
NotesTo ports sent rows k b b' = (before : List Stamp) → All (λ (r : Happening). IsAtPort ports r.event) rows → HasNoted before b → HasNoted (before ++ stamped sent (take k rows)) b'

pub notes_first : (ports sent : ℕ) (rows : List Happening) (b : Book) → NotesTo ports sent rows 0 b b
notes_first ports sent rows b = λ before all h. subst (λ z. HasNoted z b) (sym (append-nil before)) h

pub notes_next : (ports sent : ℕ) (rows : List Happening) (k : ℕ) (r : Happening) (b b1 b2 : Book) → k < length rows → r ≡ get_or rows k r → NotesTo ports sent rows k b b1 → NotesSwitch ports sent (r ∷ []) b1 b2 → NotesTo ports sent rows (k + 1) b b2
notes_next ports sent rows k r b b1 b2 inside is so one = λ before all h.
    let here : IsAtPort ports r.event = subst (λ (q : Happening). IsAtPort ports q.event) (sym is) (All-get_or (IsAt ports) rows k r inside all) in
    let more : take (k + 1) rows ≡ take k rows ++ r ∷ [] = ap (λ n. take n rows) (add-one k) ∙ take-suc rows k r inside ∙ ap (λ z. take k rows ++ z ∷ []) (sym is) in
    let stamps : stamped sent (take (k + 1) rows) ≡ stamped sent (take k rows) ++ stamped sent (r ∷ []) = ap (λ z. stamped sent z) more ∙ map-append (λ (q : Happening). stamp sent q) (take k rows) (r ∷ []) in
    subst (λ z. HasNoted z b2) (append_assoc before (stamped sent (take k rows)) (stamped sent (r ∷ [])) ∙ ap (λ z. before ++ z) (sym stamps))
    (one (before ++ stamped sent (take k rows)) (All-cons (IsAt ports) r [] here (All-nil (IsAt ports))) (so before all h))

pub notes_last : (ports sent : ℕ) (rows : List Happening) (k : ℕ) (b b' : Book) → length rows ≤ k → NotesTo ports sent rows k b b' → NotesSwitch ports sent rows b b'
notes_last ports sent rows k b b' over so = λ before all h. subst (λ z. HasNoted (before ++ stamped sent z) b') (take_all k rows over) (so before all h)

-- the ports are those of the log, whichever of its moments
pub switch_at : (a b : Log) (sent : ℕ) (rows : List Happening) (x y : Book) → SameSlaves a b → NotesSwitch (1 + length b.ports) sent rows x y → NotesSwitch (1 + length a.ports) sent rows x y
switch_at a b sent rows x y same notes = subst (λ (n : ℕ). NotesSwitch (1 + n) sent rows x y) (ap length same.ports) notes

-- ---- a session

pub noted_same : (stamps : List Stamp) (b b' : Book) → SameSwitch b b' → HasNoted stamps b → HasNoted stamps b'
noted_same stamps b b' s h = record { switch = s.switch ∙ h.switch; switched = s.switched ∙ h.switched; host = s.host ∙ h.host }

pub switched_same : (ports : ℕ) (host : List (ArrayVec ℕ)) (sent : ℕ) (l : Lan) (b b' : Book) → SameSwitch b b' → IsSwitched ports host sent l b → IsSwitched ports host sent l b'
switched_same ports host sent l b b' s x = record { stamps = x.stamps; noted = noted_same x.stamps b b' s x.noted; numbers = x.numbers; happened = x.happened }

pub switched_on : (ports : ℕ) (host : List (ArrayVec ℕ)) (sent sent' : ℕ) (l l' : Lan) (b b' : Book) → sent ≤ sent' → HappensSo l l' → NotesSwitch ports sent' l'.happened b b' → IsSwitched ports host sent l b → IsSwitched ports host sent' l' b'
switched_on ports host sent sent' l l' b b' le h n x =
    let y = h ports host (rows_of x.stamps) x.happened in
    record {
      stamps = x.stamps ++ stamped sent' l'.happened;
      noted = n x.stamps (all_last ports (rows_of x.stamps) l'.happened (all_rows ports (rows_of x.stamps ++ l'.happened) y.at_port)) x.noted;
      numbers = subst (λ z. NeverFall 0 sent' z) (sym (numbers_more sent' x.stamps l'.happened))
          (fall_on 0 sent sent' (numbers_of x.stamps) (numbers_of (stamped sent' l'.happened)) x.numbers (fall_stamped sent sent' l'.happened le));
      happened = subst (λ z. HasHappened ports host z l') (sym (rows_more sent' x.stamps l'.happened)) y;
    }

-- a step of the session: with this number as its frame is made, with one more behind it
pub switched_step :
    (ports : ℕ) (host : List (ArrayVec ℕ)) (sent : ℕ) (l m l' : Lan) (b b1 b2 b3 : Book) → HappensSo l m → NotesSwitch ports sent m.happened b b1 → SameSwitch b1 b2 → HappensSo m l' → NotesSwitch ports (sent + 1) l'.happened b2 b3
    → IsSwitched ports host sent l b → IsSwitched ports host (sent + 1) l' b3
switched_step ports host sent l m l' b b1 b2 b3 made before same back behind x =
    switched_on ports host sent (sent + 1) m l' b2 b3 (omega arith) back behind (switched_same ports host sent m b1 b2 same (switched_on ports host sent sent l m b b1 (omega arith) made before x))

-- the events are those before, then those that happened
switch_more : (ports : ℕ) (host : List (ArrayVec ℕ)) (sent sent' : ℕ) (l l' : Lan) (b b' : Book) → HappensSo l l' → NotesSwitch ports sent' l'.happened b b' → IsSwitched ports host sent l b → b'.switch ≡ b.switch ++ events_of l'.happened
switch_more ports host sent sent' l l' b b' h n x =
    let y = h ports host (rows_of x.stamps) x.happened in
    let noted : HasNoted (x.stamps ++ stamped sent' l'.happened) b' = n x.stamps (all_last ports (rows_of x.stamps) l'.happened (all_rows ports (rows_of x.stamps ++ l'.happened) y.at_port)) x.noted in
    noted.switch ∙ ap (λ z. events_of z) (rows_more sent' x.stamps l'.happened) ∙ map-append (λ (r : Happening). r.event) (rows_of x.stamps) l'.happened ∙ ap (λ z. z ++ events_of l'.happened) (sym x.noted.switch)

-- over a step
pub switch_grown :
    (ports : ℕ) (host : List (ArrayVec ℕ)) (sent : ℕ) (l m l' : Lan) (b b1 b2 b3 : Book) → HappensSo l m → NotesSwitch ports sent m.happened b b1 → SameSwitch b1 b2 → HappensSo m l' → NotesSwitch ports (sent + 1) l'.happened b2 b3
    → IsSwitched ports host sent l b → b3.switch ≡ b.switch ++ (events_of m.happened ++ events_of l'.happened)
switch_grown ports host sent l m l' b b1 b2 b3 made before same back behind x =
    switch_more ports host sent (sent + 1) m l' b2 b3 back behind (switched_same ports host sent m b1 b2 same (switched_on ports host sent sent l m b b1 (omega arith) made before x))
    ∙ ap (λ z. z ++ events_of l'.happened) (same.switch ∙ switch_more ports host sent sent l m b b1 made before x) ∙ append_assoc b.switch (events_of m.happened) (events_of l'.happened)

-- the switch that the events of a book make is the master's
pub switch_stood : (ports : ℕ) (host : List (ArrayVec ℕ)) (sent : ℕ) (l : Lan) (b : Book) → IsSwitched ports host sent l b → (switched ports b.switch).switch ≡ l.switch
switch_stood ports host sent l b x = ap (λ z. (switched ports z).switch) x.noted.switch ∙ x.happened.switch

-- so it is behind what happens next
pub switch_stands : (ports : ℕ) (host : List (ArrayVec ℕ)) (sent : ℕ) (l l' : Lan) (b : Book) → HappensSo l l' → IsSwitched ports host sent l b → (switched ports (b.switch ++ events_of l'.happened)).switch ≡ l'.switch
switch_stands ports host sent l l' b h x =
    ap (λ z. (switched ports z).switch) (ap (λ z. z ++ events_of l'.happened) x.noted.switch ∙ sym (map-append (λ (r : Happening). r.event) (rows_of x.stamps) l'.happened))
    ∙ (h ports host (rows_of x.stamps) x.happened).switch

-- ---- the book

pub has_packets : (plan : Scenario) (ports sent : ℕ) (l : Lan) (b b' : Book) → ports ≡ ports_of plan.slaves → sent ≡ length b'.frames → SameSwitch b b' → IsSwitched ports plan.host sent l b → HasPackets plan b'
has_packets plan ports sent l b b' many frames s x =
    let switch : b'.switch ≡ events_of (rows_of x.stamps) = s.switch ∙ x.noted.switch in
    let numbers : b'.switched ≡ numbers_of x.stamps = s.switched ∙ x.noted.switched in
    record {
      packets = handed_in (rows_of x.stamps);
      others = x.happened.others;
      forwards = (λ i. (switched (sym many i) (switch i)).forwards) ∙ x.happened.handed;
      host = s.host ∙ x.noted.host;
      rest = drop l.entered l.host;
      entered = ap (λ z. z ++ drop l.entered l.host) (ap (λ z. arrivals_at 0 z) switch ∙ x.happened.entered) ∙ take-append-drop l.entered l.host ∙ x.happened.own;
      many = ap length numbers ∙ length-map x.stamps (λ (t : Stamp). t.sent)
          ∙ sym (ap length switch ∙ length-map (rows_of x.stamps) (λ (r : Happening). r.event) ∙ length-map x.stamps (λ (t : Stamp). t.row));
      numbers = subst (λ n. NeverFall 0 n b'.switched) frames (subst (λ z. NeverFall 0 sent z) (sym numbers) x.numbers);
      waits = λ before after packet is. subst (λ n. NoneWaits (switched n before).switch) many (x.happened.waits before after packet (sym switch ∙ is));
    }
