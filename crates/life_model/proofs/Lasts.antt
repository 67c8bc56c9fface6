-- Behind the give-up that is for good no frame carries the slave.
use Rattle.std.proofs.Common.{◌≡◌, ℕ, zero, suc, ◌-◌, ◌≤◌, ◌==◌, Bool, true, false, cond, Option, Some, None, List, [], ◌∷◌, drop, filter, refl, ap, sym, ◌∙◌, subst, arith, if◌then◌else◌, eqb-true}
use Rattle.std.specs.Prelude.{⊤, nat_lt}
use Rattle.state_model.specs.of_link_model.Segment.{RingFate}
use Rattle.state_model.specs.of_segment_model.Slaves.{Datagram}
use Rattle.state_model.specs.of_segment_model.Record.{Frame}
use Rattle.state_model.specs.of_segment_model.Visits.{Stop, carried, is_among, split_behind, visited, last_of, Absent, NeverCarried}
use Rattle.state_model.proofs.of_segment_model.Tours.{stations, AgainAbsent, visit_absent, opened_absent}
use Rattle.life_model.specs.Tours.{Member, Tour, Visits, HasSpare, item_at, tour_after, round, stops_of, is_live_in, lose_one, all_given_up, still_open}
use Rattle.life_model.specs.Gave.{gave_by, gave_of, now_gave}
use Rattle.life_model.proofs.Gives.{gave_law}

-- NO MEMBER OF THIS STATION IS LIVE
abbrev NoneLive : ℕ → List Member → Type 0
NoneLive n [] = ⊤
NoneLive n (m ∷ ms) = ((m.stop.station == n) ≡ true → m.live ≡ false) × NoneLive n ms

not_live : (n : ℕ) (ms : List Member) → NoneLive n ms → is_live_in n ms ≡ false
not_live n [] a = refl
not_live n (m ∷ ms) a = go (m.stop.station == n) refl (not_live n ms a.1)
  where
    go : (b : Bool) → (m.stop.station == n) ≡ b → is_live_in n ms ≡ false → (if b then m.live else is_live_in n ms) ≡ false
    go true e rest = a.0 e
    go false e rest = rest

-- so it is in no round
stops_absent : (n : ℕ) (ms : List Member) → NoneLive n ms → Absent n (stations (stops_of ms))
stops_absent n [] a = tt
stops_absent n (m ∷ ms) a = go m.live refl (m.stop.station == n) refl (stops_absent n ms a.1)
  where
    go : (live : Bool) → m.live ≡ live → (b : Bool) → (m.stop.station == n) ≡ b → Absent n (stations (stops_of ms)) → Absent n (stations (if live then m.stop ∷ stops_of ms else stops_of ms))
    go false l b e rest = rest
    go true l true e rest = absurd (let dead = a.0 e in cc)
    go true l false e rest = (e, rest)

live_absent : (n : ℕ) (ms : List Member) (ss : List Stop) → is_live_in n ms ≡ false → Absent n (stations (filter (λ s. is_live_in s.station ms) ss))
live_absent n ms [] out = tt
live_absent n ms (s ∷ ss) out = go (is_live_in s.station ms) refl (live_absent n ms ss out)
  where
    other : (b : Bool) → (s.station == n) ≡ b → is_live_in s.station ms ≡ true → (s.station == n) ≡ false
    other false e is = e
    other true e is = absurd (let same : s.station ≡ n = eqb-true s.station n e in let clash : is_live_in n ms ≡ true = subst (λ k. is_live_in k ms ≡ true) same is in cc)

    go : (b : Bool) → is_live_in s.station ms ≡ b → Absent n (stations (filter (λ s. is_live_in s.station ms) ss)) → Absent n (stations (cond b (s ∷ filter (λ s. is_live_in s.station ms) ss) (filter (λ s. is_live_in s.station ms) ss)))
    go true is rest = (other (s.station == n) refl is, rest)
    go false is rest = rest

round_absent : (n : ℕ) (ring : List Stop) (last : Option ℕ) (ms : List Member) → NoneLive n ms → Absent n (stations (round ring last ms))
round_absent n ring None ms a = stops_absent n ms a
round_absent n ring (Some last) ms a = live_absent n ms (split_behind last [] ring) (not_live n ms a)

-- a give-up makes nobody live
still_none : (n : ℕ) (cs : List ℕ) (ms : List Member) → NoneLive n ms → NoneLive n (all_given_up cs ms)
still_none n cs [] a = tt
still_none n cs (m ∷ ms) a = (go (is_among m.stop.station cs) m.spare, still_none n cs ms a.1)
  where
    go : (b : Bool) (spare : ℕ) → (let k = if b then lose_one m spare else m in (k.stop.station == n) ≡ true → k.live ≡ false)
    go false spare = a.0
    go true zero = λ e. refl
    go true (suc k) = a.0

record Gone (n : ℕ) (t : Tour) : Type 0 where
  members : NoneLive n t.members
  opening : Absent n (stations t.opening)
  again : AgainAbsent n t.again

gone_after : {M : Type 0} (n retry : ℕ) (t : Tour) (cs : List ℕ) (f : Frame M) (fate : RingFate) → Absent n cs → Gone n t → Gone n (tour_after retry t cs f fate)
gone_after n retry t cs f RingFate.Back a g = record { members = g.members; opening = opened_absent n f.back t.opening g.opening; again = tt }
gone_after n retry t cs f (RingFate.Lost after) a g = go (nat_lt t.missed retry)
  where
    go : (b : Bool) → Gone n (if b then record t { again = Some cs; missed = suc t.missed }
        else (let ms = all_given_up cs t.members in record { members = ms; opening = still_open ms t.opening; last = visited t.opening (last_of t.last cs); again = None; missed = 0 }))
    go true = record { members = g.members; opening = g.opening; again = a }
    go false =
        let none = still_none n cs t.members g.members in
        record { members = none; opening = live_absent n (all_given_up cs t.members) t.opening (not_live n (all_given_up cs t.members) none); again = tt }

never : {M : Type 0} (size : List (Datagram M) → ℕ) (retry n : ℕ) (ring : List Stop) (t : Tour) (fs : List (Frame M)) → Visits size retry ring t fs → Gone n t → NeverCarried ring n fs
never size retry n ring t [] v g = tt
never size retry n ring t (f ∷ fs) v g =
    let a = visit_absent n (size f.sent) t.again t.opening (round ring t.last t.members) (carried ring f.sent) g.again g.opening (round_absent n ring t.last t.members g.members) v.0 in
    (a, never size retry n ring (tour_after retry t (carried ring f.sent) f f.fate) fs v.1 (gone_after n retry t (carried ring f.sent) f f.fate a g))

-- the slave is among those given up by its own station
among_own : (n m : ℕ) (cs : List ℕ) → (m == n) ≡ true → is_among m cs ≡ is_among n cs
among_own n m cs e = ap (λ k. is_among k cs) (eqb-true m n e)

-- WITHOUT A SPARE it is no longer live, and with one it has one less
last_spare : (n : ℕ) (cs : List ℕ) (ms : List Member) → is_among n cs ≡ true → HasSpare n zero ms → NoneLive n (all_given_up cs ms)
last_spare n cs [] is h = tt
last_spare n cs (m ∷ ms) is h = (λ e. go (is_among m.stop.station cs) m.spare refl refl e, last_spare n cs ms is h.1)
  where
    go : (b : Bool) (spare : ℕ) → is_among m.stop.station cs ≡ b → m.spare ≡ spare → (let k = if b then lose_one m spare else m in (k.stop.station == n) ≡ true → k.live ≡ false)
    go true zero f s e = refl
    go true (suc k) f s e = absurd (let none = h.0 e in cc)
    go false spare f s e = absurd (let same = among_own n m.stop.station cs e in cc)

one_less : (n spare : ℕ) (cs : List ℕ) (ms : List Member) → is_among n cs ≡ true → HasSpare n (suc spare) ms → HasSpare n spare (all_given_up cs ms)
one_less n spare cs [] is h = tt
one_less n spare cs (m ∷ ms) is h = (go (is_among m.stop.station cs) m.spare refl refl, one_less n spare cs ms is h.1)
  where
    go : (b : Bool) (now : ℕ) → is_among m.stop.station cs ≡ b → m.spare ≡ now → (let k = if b then lose_one m now else m in (k.stop.station == n) ≡ true → k.spare ≡ spare)
    go true zero f s e = absurd (let more = h.0 e in cc)
    go true (suc k) f s e = let more = h.0 e in let same : suc k ≡ suc spare = sym s ∙ more in omega (arith, same)
    go false now f s e = absurd (let same = among_own n m.stop.station cs e in cc)

as_many : (n spare : ℕ) (cs : List ℕ) (ms : List Member) → is_among n cs ≡ false → HasSpare n spare ms → HasSpare n spare (all_given_up cs ms)
as_many n spare cs [] is h = tt
as_many n spare cs (m ∷ ms) is h = (go (is_among m.stop.station cs) m.spare refl, as_many n spare cs ms is h.1)
  where
    go : (b : Bool) (now : ℕ) → is_among m.stop.station cs ≡ b → (let k = if b then lose_one m now else m in (k.stop.station == n) ≡ true → k.spare ≡ spare)
    go false now f e = h.0 e
    go true zero f e = absurd (let same = among_own n m.stop.station cs e in cc)
    go true (suc k) f e = absurd (let same = among_own n m.stop.station cs e in cc)

module _ {M : Type 0} (size : List (Datagram M) → ℕ) (retry n : ℕ) (ring : List Stop) where
  record Behind (number g : ℕ) (fs : List (Frame M)) : Type 0 where
    first : number ≤ g
    none : NeverCarried ring n (drop (suc g - number) fs)

  later : (number g : ℕ) (f : Frame M) (fs : List (Frame M)) → Behind (suc number) g fs → Behind number g (f ∷ fs)
  later number g f fs b =
      let le = b.first in
      record {
        first = omega (arith, le);
        none = subst (NeverCarried ring n) (ap (λ k. drop k (f ∷ fs)) (let same : suc (suc g - suc number) ≡ suc g - number = omega (arith, le) in same)) b.none;
      }

  given : (number spare g : ℕ) (t : Tour) (fs : List (Frame M)) → HasSpare n spare t.members → Visits size retry ring t fs → item_at spare (gave_by retry ring n number t fs) ≡ Some g → Behind number g fs
  given number spare g t [] h v e = absurd (cc)
  given number spare g t (f ∷ fs) h v e = go f.fate e v.1 (λ k u a w i. given (suc number) k g u fs a w i)
    where
      cs : List ℕ
      cs = carried ring f.sent

      -- behind a lost frame, by which slaves are given up or not
      lost : (b c : Bool) (spare : ℕ) → HasSpare n spare t.members → nat_lt t.missed retry ≡ b → is_among n cs ≡ c →
          (let next = if b then record t { again = Some cs; missed = suc t.missed }
          else (let ms = all_given_up cs t.members in record { members = ms; opening = still_open ms t.opening; last = visited t.opening (last_of t.last cs); again = None; missed = 0 }) in
          item_at spare (if b then gave_by retry ring n (suc number) next fs else (if c then number ∷ gave_by retry ring n (suc number) next fs else gave_by retry ring n (suc number) next fs)) ≡ Some g →
          Visits size retry ring next fs → ((k : ℕ) (u : Tour) → HasSpare n k u.members → Visits size retry ring u fs → item_at k (gave_by retry ring n (suc number) u fs) ≡ Some g → Behind (suc number) g fs) → Behind number g (f ∷ fs))
      lost true c spare h few is e v rest = later number g f fs (rest spare (record t { again = Some cs; missed = suc t.missed }) h v e)
      lost false false spare h few is e v rest = later number g f fs (rest spare _ (as_many n spare cs t.members is h) v e)
      lost false true (suc k) h few is e v rest = later number g f fs (rest k _ (one_less n k cs t.members is h) v e)
      lost false true zero h few is e v rest =
          let same : Some number ≡ Some g = e in
          let eq : number ≡ g = cc in
          let none = last_spare n cs t.members is h in
          record {
            first = omega (arith, eq);
            none = subst (NeverCarried ring n) (ap (λ k. drop k (f ∷ fs)) (let one : 1 ≡ suc g - number = omega (arith, eq) in one))
                (never size retry n ring _ fs v (record { members = none; opening = live_absent n (all_given_up cs t.members) t.opening (not_live n (all_given_up cs t.members) none); again = tt }));
          }

      go : (fate : RingFate) → item_at spare (now_gave retry t (is_among n cs) number fate (gave_by retry ring n (suc number) (tour_after retry t cs f fate) fs)) ≡ Some g → Visits size retry ring (tour_after retry t cs f fate) fs →
          ((k : ℕ) (u : Tour) → HasSpare n k u.members → Visits size retry ring u fs → item_at k (gave_by retry ring n (suc number) u fs) ≡ Some g → Behind (suc number) g fs) → Behind number g (f ∷ fs)
      go RingFate.Back e v rest = later number g f fs (rest spare _ h v e)
      go (RingFate.Lost after) e v rest = lost (nat_lt t.missed retry) (is_among n cs) spare h refl refl e v rest

  -- FOR GOOD: behind the give-up for which no spare is left
  pub for_good : (spare g : ℕ) (t : Tour) (fs : List (Frame M)) → t.again ≡ None → t.missed ≡ zero → HasSpare n spare t.members → Visits size retry ring t fs → item_at spare (gave_of retry ring n fs) ≡ Some g → NeverCarried ring n (drop (suc g) fs)
  for_good spare g t fs none start h v e =
      let b = given zero spare g t fs h v (ap (item_at spare) (gave_law size retry n ring t fs none start v) ∙ e) in
      subst (NeverCarried ring n) (ap (λ k. drop k fs) (let same : suc g - 0 ≡ suc g = omega arith in same)) b.none
