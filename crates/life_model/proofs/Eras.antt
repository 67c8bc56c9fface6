-- A slave's epoch goes on by each frame of the ring, and what it promises.
use Rattle.std.proofs.Common.{◌≡◌, ℕ, zero, suc, ◌+◌, ◌-◌, ◌<◌, Bool, Option, Some, List, [], ◌∷◌, ◌++◌, length, map, take, drop, refl, ap, ap₂, sym, ◌∙◌, subst, arith, append_assoc, append-nil, length-append, length-drop}
use Rattle.std.specs.Prelude.{replicate}
use Rattle.std.proofs.lemmas.List.{drop-append-le, length-map}
use Rattle.std.proofs.Math.Seq.{take-length}
use Rattle.state_model.specs.of_exchange_model.Exchange.{Exchange}
use Rattle.state_model.specs.of_link_model.Segment.{RingFate}
use Rattle.state_model.specs.of_segment_model.Slaves.{Registers, Processor, Slave, Datagram, Ring, Move, ring_after, ring_back, ring_steps}
use Rattle.state_model.specs.of_segment_model.Record.{Frame, News, frame_of}
use Rattle.state_model.specs.of_segment_model.Seats.{Side, Planned, IsOpening}
use Rattle.state_model.specs.of_segment_model.Split.{IsFrameOf, sides_next, sides_after}
use Rattle.state_model.specs.States.{Table}
use Rattle.state_model.specs.Stated.{Stated}
use Rattle.state_model.specs.Accounts.{Account, Pick, new_account}
use Rattle.state_model.specs.Tasks.{IsTaskPlan, IsTasked, AreServed, mails_choices, accounts_next, accounts_after}
use Rattle.state_model.specs.Promise.{PlanSession, OfEach}
use Rattle.state_model.proofs.Splits.{tasked_step, new_tasked}
use Rattle.life_model.specs.Own.{blank, own, own_fate, own_frame, own_move}
use Rattle.life_model.specs.Alone.{IsAlone, Reaches}
use Rattle.life_model.specs.Lives.{Spot, Era, AsksOpen, granted, era_next, era_after, new_era, new_side}
use Rattle.life_model.specs.Eras.{EraIs, EraGoesOn, OpenEra, era_frames, frames_of, planned, opened_slave}
use Rattle.life_model.proofs.Rings.{alone-back, alone-after, alone-steps}

-- THE FRAMES OF AN EPOCH have the numbers of all frames
blanks_length : (M : Type 0) (n : ℕ) → length (replicate n (blank {M = M})) ≡ n
blanks_length M zero = refl
blanks_length M (suc n) = ap suc (blanks_length M n)

all_of : {X : Type 0} (n : ℕ) (xs : List X) → length xs ≡ n → take n xs ≡ xs
all_of n xs e = ap (λ k. take k xs) (sym e) ∙ take-length xs

behind_length : {X : Type 0} (k : ℕ) (xs : List X) → length (drop k xs) ≡ length xs - k
behind_length k xs = length-drop k xs

-- up to now
all_frames : {M : Type 0} (spot : Spot) (opened : ℕ) (fs : List (Frame M)) →
    era_frames spot opened (length fs) fs ≡ replicate (suc opened) blank ++ map (λ f. own_frame spot.station spot.place f) (drop (suc opened) fs)
all_frames spot opened fs = ap (λ l. replicate (suc opened) blank ++ map (λ f. own_frame spot.station spot.place f) l) (all_of (length fs - suc opened) (drop (suc opened) fs) (behind_length (suc opened) fs))

map-append : {X Y : Type 0} (f : X → Y) (xs ys : List X) → map f (xs ++ ys) ≡ map f xs ++ map f ys
map-append f [] ys = refl
map-append f (x ∷ xs) ys = ap (λ l. f x ∷ l) (map-append f xs ys)

pub frames_push : {M : Type 0} (spot : Spot) (opened : ℕ) (fs : List (Frame M)) (f : Frame M) → opened < length fs →
    era_frames spot opened (suc (length fs)) (fs ++ f ∷ []) ≡ era_frames spot opened (length fs) fs ++ own_frame spot.station spot.place f ∷ []
frames_push spot opened fs f le =
    ap (λ n. era_frames spot opened n (fs ++ f ∷ [])) (let same : suc (length fs) ≡ length (fs ++ f ∷ []) = sym (length-append fs (f ∷ []) ∙ (let one : length fs + 1 ≡ suc (length fs) = omega arith in one)) in same)
    ∙ all_frames spot opened (fs ++ f ∷ [])
    ∙ ap (λ l. replicate (suc opened) blank ++ map (λ g. own_frame spot.station spot.place g) l) (drop-append-le (suc opened) fs (f ∷ []) (omega (arith, le)))
    ∙ ap (λ l. replicate (suc opened) blank ++ l) (map-append (λ g. own_frame spot.station spot.place g) (drop (suc opened) fs) (f ∷ []))
    ∙ sym (append_assoc (replicate (suc opened) blank) (map (λ g. own_frame spot.station spot.place g) (drop (suc opened) fs)) (own_frame spot.station spot.place f ∷ []))
    ∙ ap (λ l. l ++ own_frame spot.station spot.place f ∷ []) (sym (all_frames spot opened fs))

pub frames_length : {M : Type 0} (spot : Spot) (opened : ℕ) (fs : List (Frame M)) → opened < length fs → length (era_frames spot opened (length fs) fs) ≡ length fs
frames_length {M} spot opened fs le =
    ap length (all_frames spot opened fs)
    ∙ length-append (replicate (suc opened) (blank {M = M})) (map (λ f. own_frame spot.station spot.place f) (drop (suc opened) fs))
    ∙ ap₂ (λ (a b : ℕ). a + b) (blanks_length M (suc opened)) (length-map (drop (suc opened) fs) (λ f. own_frame spot.station spot.place f) ∙ behind_length (suc opened) fs)
    ∙ (let same : suc opened + (length fs - suc opened) ≡ length fs = omega (arith, le) in same)

-- what comes back of a frame for the one slave
own-ring_back : {V M : Type 0} (station place : ℕ) (before : Ring V M) (s : Slave V M) (behind : Ring V M) (ds : List (Datagram M)) (fate : RingFate) → (Reaches place fate → IsAlone station before s behind ds) →
    ring_back ((station, s) ∷ []) (own station ds) (own_fate place fate) ≡ own station (ring_back (before ++ (station, s) ∷ behind) ds fate)
own-ring_back station place before s behind ds RingFate.Back a = sym (alone-back station before s behind ds (a tt))
own-ring_back station place before s behind ds (RingFate.Lost after) a = refl

module _ {V A M Q R : Type 0} (x : Exchange V A M Q R) (s : Stated V A Q) (processor : Processor V) (table : ℕ → Table) where
  -- AN EPOCH BEGINS behind the frame that showed the opened state
  blanks_open : (n : ℕ) → IsOpening {M = M} (replicate n blank)
  blanks_open zero = tt
  blanks_open (suc n) = ((tt, tt), blanks_open n)

  drop_all : (l : List (Frame M)) → drop (length l) l ≡ []
  drop_all [] = refl
  drop_all (f ∷ l) = drop_all l

  pub era_begins : (spot : Spot) (cleared : Option ℕ) (state opened : ℕ) (fs : List (Frame M)) (v : V) (r : Registers) → length fs ≡ suc opened → IsTaskPlan x s processor table (planned spot v r ∷ []) → r.station ≡ spot.station →
      EraIs x s processor table spot (record (new_era {M = M} {Q = Q} {R = R} cleared state) { opened = Some opened }) opened (length fs) fs v r (opened_slave M Q R spot v r)
  era_begins spot cleared state opened fs v r is plan answers =
      let nothing : drop (suc opened) fs ≡ [] = ap (λ k. drop k fs) (sym is) ∙ drop_all fs in
      let blanks : era_frames spot opened (length fs) fs ≡ replicate (suc opened) blank =
      all_frames spot opened fs ∙ ap (λ l. replicate (suc opened) blank ++ map (λ f. own_frame spot.station spot.place f) l) nothing ∙ append-nil (replicate (suc opened) blank) in
      record {
        plan = plan;
        answers = answers;
        opened_at = refl;
        tasked = subst (λ l. IsTasked x s.acknowledged processor (planned spot v r ∷ []) ((spot.station, new_side) ∷ []) (new_account ∷ []) ((spot.station, opened_slave M Q R spot v r) ∷ []) l) (sym blanks)
            (new_tasked x s.acknowledged processor (planned spot v r ∷ []) (replicate (suc opened) blank) (blanks_open (suc opened)));
      }

  moved : {ds ds2 : List (ℕ × Side M Q R)} {accounts accounts2 : List (Account Q R)} {ns ns2 : Ring V M} {fs fs2 : List (Frame M)} (ps : List (Planned V)) → ds ≡ ds2 → accounts ≡ accounts2 → ns ≡ ns2 → fs ≡ fs2 →
      IsTasked x s.acknowledged processor ps ds accounts ns fs → IsTasked x s.acknowledged processor ps ds2 accounts2 ns2 fs2
  moved {ds = ds} {ds2 = ds2} {accounts = accounts} {accounts2 = accounts2} {ns = ns} {ns2 = ns2} {fs = fs} {fs2 = fs2} ps e f g h b =
      subst (λ l. IsTasked x s.acknowledged processor ps ds2 accounts2 ns2 l) h (subst (λ l. IsTasked x s.acknowledged processor ps ds2 accounts2 l fs) g
      (subst (λ l. IsTasked x s.acknowledged processor ps ds2 l ns fs) f (subst (λ l. IsTasked x s.acknowledged processor ps l accounts ns fs) e b)))

  -- IT GOES ON
  module _ (more : M → Bool) (passed : Q → Bool) (spot : Spot) where
    abbrev then : ℕ → List (News M) → List (Datagram M) → RingFate → List (Datagram M) → Era M Q R → Era M Q R
    then frame news sent fate back e = era_after x.speech s.acknowledged more passed spot.station frame news sent fate back e

    sides_is : (frame : ℕ) (news : List (News M)) (sent : List (Datagram M)) (fate : RingFate) (back : List (Datagram M)) (e : Era M Q R) →
        sides_after x.speech frame (own spot.station sent) (own_fate spot.place fate) (own spot.station back) ((spot.station, e.side) ∷ []) ≡ (spot.station, (then frame news sent fate back e).side) ∷ []
    sides_is frame news sent RingFate.Back back e = refl
    sides_is frame news sent (RingFate.Lost after) back e = refl

    accounts_is : (frame : ℕ) (news : List (News M)) (sent : List (Datagram M)) (fate : RingFate) (back : List (Datagram M)) (e : Era M Q R) →
        accounts_after frame ((spot.station, e.side) ∷ []) (e.account ∷ []) (own_fate spot.place fate) (own spot.station back) ≡ (then frame news sent fate back e).account ∷ []
    accounts_is frame news sent RingFate.Back back e = refl
    accounts_is frame news sent (RingFate.Lost after) back e = refl

    opened_is : (frame : ℕ) (news : List (News M)) (sent : List (Datagram M)) (fate : RingFate) (back : List (Datagram M)) (e : Era M Q R) → (then frame news sent fate back e).opened ≡ e.opened
    opened_is frame news sent RingFate.Back back e = refl
    opened_is frame news sent (RingFate.Lost after) back e = refl

    pub era_turns : (e : Era M Q R) (opened : ℕ) (fs : List (Frame M)) (v : V) (r : Registers) (before : Ring V M) (n : Slave V M) (behind : Ring V M) →
        length before ≡ spot.place → opened < length fs → EraIs x s processor table spot e opened (length fs) fs v r n → (pick : Pick Q) (m : Move M) (news : List (News M)) →
        (Reaches spot.place m.fate → IsAlone spot.station before n behind m.sent) →
        (let next = era_next x.speech s.acknowledged more passed (length fs) e pick in
        let whole = before ++ (spot.station, n) ∷ behind in
        AsksOpen spot.station next m.sent →
        EraGoesOn x s processor table spot (then (length fs) news m.sent m.fate (ring_back whole m.sent m.fate) next) opened fs v r whole m)
    era_turns e opened fs v r before n behind at le b pick m news alone asks =
        let p = granted e.passing pick in
        let next = era_next x.speech s.acknowledged more passed (length fs) e pick in
        let whole = before ++ (spot.station, n) ∷ behind in
        let back = ring_back whole m.sent m.fate in
        let mine = own_move spot.station spot.place m in
        let one = (spot.station, n) ∷ [] in
        let old = era_frames spot opened (length fs) fs in
        let ds = (spot.station, e.side) ∷ [] in
        let ring = ring_steps x processor (ring_after one mine.sent mine.fate) mine.steps in
        let stands = alone-steps x processor spot.station spot.place m.steps (ring_after whole m.sent m.fate) (ring_after one mine.sent mine.fate) (alone-after spot.station spot.place before n behind m.sent m.fate at alone) in
        let turned = subst (λ k. IsFrameOf (sides_next x.speech k ds (mails_choices (e.account ∷ []) (p ∷ []))) mine.sent → AreServed (sides_next x.speech k ds (mails_choices (e.account ∷ []) (p ∷ []))) (accounts_next x.speech s.acknowledged k ds (e.account ∷ []) (p ∷ [])) mine.sent →
        IsTasked x s.acknowledged processor (planned spot v r ∷ []) (sides_after x.speech k mine.sent mine.fate (ring_back one mine.sent mine.fate) (sides_next x.speech k ds (mails_choices (e.account ∷ []) (p ∷ []))))
        (accounts_after k (sides_next x.speech k ds (mails_choices (e.account ∷ []) (p ∷ []))) (accounts_next x.speech s.acknowledged k ds (e.account ∷ []) (p ∷ [])) mine.fate (ring_back one mine.sent mine.fate)) ring (old ++ frame_of one mine ∷ []))
        (frames_length spot opened fs le) (λ f served. tasked_step x s.acknowledged processor (planned spot v r ∷ []) ds (e.account ∷ []) one old b.tasked (p ∷ []) mine f served) (asks.halves, tt) (asks.served, tt) in
        let known = subst (λ bs. IsTasked x s.acknowledged processor (planned spot v r ∷ []) (sides_after x.speech (length fs) mine.sent mine.fate bs ((spot.station, next.side) ∷ []))
        (accounts_after (length fs) ((spot.station, next.side) ∷ []) (next.account ∷ []) mine.fate bs) ring (old ++ record { sent = mine.sent; fate = mine.fate; back = bs } ∷ []))
        (own-ring_back spot.station spot.place before n behind m.sent m.fate alone) turned in
        record {
          slave = stands.slave;
          stands = record { before = stands.before; slave = stands.slave; behind = stands.behind; at = stands.at; whole_is = stands.whole_is; one_is = refl };
          era = record {
            plan = b.plan;
            answers = b.answers;
            opened_at = opened_is (length fs) news m.sent m.fate back next ∙ b.opened_at;
            tasked = moved (planned spot v r ∷ []) (sides_is (length fs) news m.sent m.fate back next) (accounts_is (length fs) news m.sent m.fate back next) stands.one_is (sym (frames_push spot opened fs (frame_of whole m) le)) known;
          };
        }

    -- the same by what a slave has of a frame that is its own, whatever the others of its ring are
    pub own_turns : (e : Era M Q R) (opened : ℕ) (fs : List (Frame M)) (v : V) (r : Registers) (n : Slave V M) → opened < length fs → EraIs x s processor table spot e opened (length fs) fs v r n →
        (pick : Pick Q) (news : List (News M)) (sent : List (Datagram M)) (fate : RingFate) (back : List (Datagram M)) (steps : List ℕ) (slave : Slave V M) →
        (let next = era_next x.speech s.acknowledged more passed (length fs) e pick in
        let one : Ring V M = (spot.station, n) ∷ [] in
        AsksOpen spot.station next sent →
        ring_back one (own spot.station sent) (own_fate spot.place fate) ≡ own spot.station back →
        ring_steps x processor (ring_after one (own spot.station sent) (own_fate spot.place fate)) steps ≡ (spot.station, slave) ∷ [] →
        EraIs x s processor table spot (then (length fs) news sent fate back next) opened (suc (length fs)) (fs ++ record { sent = sent; fate = fate; back = back } ∷ []) v r slave)
    own_turns e opened fs v r n le b pick news sent fate back steps slave asks backs rings =
        let p = granted e.passing pick in
        let next = era_next x.speech s.acknowledged more passed (length fs) e pick in
        let mine : Move M = record { sent = own spot.station sent; fate = own_fate spot.place fate; steps = steps } in
        let one : Ring V M = (spot.station, n) ∷ [] in
        let old = era_frames spot opened (length fs) fs in
        let ds = (spot.station, e.side) ∷ [] in
        let ring = ring_steps x processor (ring_after one mine.sent mine.fate) mine.steps in
        let turned = subst (λ k. IsFrameOf (sides_next x.speech k ds (mails_choices (e.account ∷ []) (p ∷ []))) mine.sent → AreServed (sides_next x.speech k ds (mails_choices (e.account ∷ []) (p ∷ []))) (accounts_next x.speech s.acknowledged k ds (e.account ∷ []) (p ∷ [])) mine.sent →
        IsTasked x s.acknowledged processor (planned spot v r ∷ []) (sides_after x.speech k mine.sent mine.fate (ring_back one mine.sent mine.fate) (sides_next x.speech k ds (mails_choices (e.account ∷ []) (p ∷ []))))
        (accounts_after k (sides_next x.speech k ds (mails_choices (e.account ∷ []) (p ∷ []))) (accounts_next x.speech s.acknowledged k ds (e.account ∷ []) (p ∷ [])) mine.fate (ring_back one mine.sent mine.fate)) ring (old ++ frame_of one mine ∷ []))
        (frames_length spot opened fs le) (λ f served. tasked_step x s.acknowledged processor (planned spot v r ∷ []) ds (e.account ∷ []) one old b.tasked (p ∷ []) mine f served) (asks.halves, tt) (asks.served, tt) in
        let known = subst (λ bs. IsTasked x s.acknowledged processor (planned spot v r ∷ []) (sides_after x.speech (length fs) mine.sent mine.fate bs ((spot.station, next.side) ∷ []))
        (accounts_after (length fs) ((spot.station, next.side) ∷ []) (next.account ∷ []) mine.fate bs) ring (old ++ record { sent = mine.sent; fate = mine.fate; back = bs } ∷ []))
        backs turned in
        record {
          plan = b.plan;
          answers = b.answers;
          opened_at = opened_is (length fs) news sent fate back next ∙ b.opened_at;
          tasked = moved (planned spot v r ∷ []) (sides_is (length fs) news sent fate back next) (accounts_is (length fs) news sent fate back next) rings (sym (frames_push spot opened fs (record { sent = sent; fate = fate; back = back }) le)) known;
        }

-- WHAT AN OPEN EPOCH PROMISES
abbrev pub session_of : {V A M Q R : Type 0} → OpenEra V A M Q R → PlanSession V A M Q R
session_of w = record {
  exchange = w.exchange;
  states = w.states;
  processor = w.processor;
  table = w.table;
  plan = planned w.spot w.server w.registers ∷ [];
  sides = (w.spot.station, w.era.side) ∷ [];
  accounts = w.era.account ∷ [];
  ring = (w.spot.station, w.slave) ∷ [];
  frames = frames_of w;
  lawful = w.lawful;
  stated = w.stated;
  planned = w.is.plan;
  tasked = w.is.tasked;
}

-- of the one slave
pub of_one : {V A M Q R : Type 0} (w : OpenEra V A M Q R) (P : ℕ → V → Side M Q R → Account Q R → Slave V M → Type 0) → OfEach (session_of w) P → P w.spot.station w.server w.era.side w.era.account w.slave
of_one w P each = each.0.2 w.is.answers
