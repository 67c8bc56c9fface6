-- A lost frame's slaves come again until they are given up, and no later frame carries a slave that is given up.
use Rattle.std.proofs.Common.{◌≡◌, ◌⊎◌, inl, inr, ℕ, zero, suc, ◌-◌, ◌<◌, ◌≤◌, ◌==◌, leb, Bool, true, false, not, cond, Option, Some, None, List, [], ◌∷◌, ◌++◌, map, take, drop, filter, length, refl, ap, sym, ◌∙◌, subst, arith, append_assoc, append-nil, length-append, if◌then◌else◌, eqb-true}
use Rattle.std.specs.Prelude.{⊤, nat_lt}
use Rattle.std.proofs.lemmas.Bool.Decides.{leb_tells}
use Rattle.std.proofs.lemmas.List.{drop-append-le}
use Rattle.link_model.specs.Segment.{RingFate}
use Rattle.segment_model.specs.Slaves.{Datagram}
use Rattle.segment_model.specs.Record.{Frame, back_news}
use Rattle.segment_model.specs.Visits.{Stop, Tour, carried, split_behind, is_live, round, Fills, IsVisit, shows, opening_after, is_among, without, visited, last_of, tour_after, Visits, Absent, NeverCarried, new_tour, tour_over, IsLost, AllLost, AllMissed, IsGivenUp}

abbrev pub stations : List Stop → List ℕ
stations ss = map (λ s. s.station) ss

not_live : (n : ℕ) (live : List Stop) → Absent n (stations live) → is_live n live ≡ false
not_live n [] a = refl
not_live n (s ∷ ss) a = ap (λ b. if b then true else is_live n ss) a.0 ∙ not_live n ss a.1

absent_live : (n : ℕ) (live xs : List Stop) → is_live n live ≡ false → Absent n (stations (filter (λ s. is_live s.station live) xs))
absent_live n live [] out = tt
absent_live n live (x ∷ xs) out = go (is_live x.station live) refl (absent_live n live xs out)
  where
    other : (b : Bool) → (x.station == n) ≡ b → is_live x.station live ≡ true → (x.station == n) ≡ false
    other false e is = e
    other true e is = absurd (let same : x.station ≡ n = eqb-true x.station n e in let clash : is_live n live ≡ true = subst (λ k. is_live k live ≡ true) same is in cc)

    go : (b : Bool) → is_live x.station live ≡ b → Absent n (stations (filter (λ s. is_live s.station live) xs)) → Absent n (stations (if b then x ∷ filter (λ s. is_live s.station live) xs else filter (λ s. is_live s.station live) xs))
    go true is rest = (other (x.station == n) refl is, rest)
    go false is rest = rest

absent_round : (n : ℕ) (ring : List Stop) (last : Option ℕ) (live : List Stop) → Absent n (stations live) → Absent n (stations (round ring last live))
absent_round n ring None live a = a
absent_round n ring (Some last) live a = absent_live n live (split_behind last [] ring) (not_live n live a)

fills_absent : (n size : ℕ) (ss : List Stop) (cs : List ℕ) → Absent n (stations ss) → Fills size ss cs → Absent n cs
fills_absent n size [] [] a f = tt
fills_absent n size (s ∷ ss) [] a f = tt
fills_absent n size [] (c ∷ cs) a f = absurd f
fills_absent n size (s ∷ ss) (c ∷ cs) a f = (subst (λ k. (k == n) ≡ false) f.0 a.0, fills_absent n size ss cs a.1 f.1)

abbrev pub AgainAbsent : ℕ → Option (List ℕ) → Type 0
AgainAbsent n None = ⊤
AgainAbsent n (Some cs) = Absent n cs

record Gone (n : ℕ) (t : Tour) : Type 0 where
  pub opening : Absent n (stations t.opening)
  pub live : Absent n (stations t.live)
  pub again : AgainAbsent n t.again

pub visit_absent : (n size : ℕ) (again : Option (List ℕ)) (opening ss : List Stop) (cs : List ℕ) → AgainAbsent n again → Absent n (stations opening) → Absent n (stations ss) → IsVisit size again opening ss cs → Absent n cs
visit_absent n size (Some same) opening ss cs a o l v = subst (Absent n) (sym v) a
visit_absent n size None (s ∷ opening) ss cs a o l v = subst (Absent n) (sym v) (o.0, tt)
visit_absent n size None [] ss [] a o l v = tt
visit_absent n size None [] ss (c ∷ cs) a o l v = fills_absent n size ss (c ∷ cs) l v

without_absent : (n : ℕ) (gone : List ℕ) (ss : List Stop) → Absent n (stations ss) → Absent n (stations (without gone ss))
without_absent n gone [] a = tt
without_absent n gone (s ∷ ss) a = go (not (is_among s.station gone)) (without_absent n gone ss a.1)
  where
    go : (b : Bool) → Absent n (stations (without gone ss)) → Absent n (stations (cond b (s ∷ without gone ss) (without gone ss)))
    go true h = (a.0, h)
    go false h = h

pub opened_absent : {M : Type 0} (n : ℕ) (back : List (Datagram M)) (ss : List Stop) → Absent n (stations ss) → Absent n (stations (opening_after back ss))
opened_absent n back [] a = tt
opened_absent n back (s ∷ ss) a = go (shows s.state (back_news s.station 0 back))
  where
    go : (b : Bool) → Absent n (stations (if b then ss else s ∷ ss))
    go true = a.1
    go false = a

gone_after : {M : Type 0} (n retry : ℕ) (t : Tour) (cs : List ℕ) (f : Frame M) (fate : RingFate) → Absent n cs → Gone n t → Gone n (tour_after retry t cs f fate)
gone_after n retry t cs f RingFate.Back a g = record { opening = opened_absent n f.back t.opening g.opening; live = g.live; again = tt }
gone_after n retry t cs f (RingFate.Lost after) a g = go (nat_lt t.missed retry)
  where
    go : (b : Bool) → Gone n (if b then record t { again = Some cs; missed = suc t.missed } else record { opening = without cs t.opening; live = without cs t.live; last = visited t.opening (last_of t.last cs); again = None; missed = 0 })
    go true = record { opening = g.opening; live = g.live; again = a }
    go false = record { opening = without_absent n cs t.opening g.opening; live = without_absent n cs t.live g.live; again = tt }

never : {M : Type 0} (size : List (Datagram M) → ℕ) (retry n : ℕ) (ring : List Stop) (t : Tour) (fs : List (Frame M)) → Visits size retry ring t fs → Gone n t → NeverCarried ring n fs
never size retry n ring t [] v g = tt
never size retry n ring t (f ∷ fs) v g =
    let a = visit_absent n (size f.sent) t.again t.opening (round ring t.last t.live) (carried ring f.sent) g.again g.opening (absent_round n ring t.last t.live g.live) v.0 in
    (a, never size retry n ring (tour_after retry t (carried ring f.sent) f f.fate) fs v.1 (gone_after n retry t (carried ring f.sent) f f.fate a g))

-- those that are given up are gone
gone_without : (n : ℕ) (cs : List ℕ) (ss : List Stop) → is_among n cs ≡ true → Absent n (stations (without cs ss))
gone_without n cs [] e = tt
gone_without n cs (s ∷ ss) e = go (is_among s.station cs) refl (gone_without n cs ss e)
  where
    other : is_among s.station cs ≡ false → (b : Bool) → (s.station == n) ≡ b → b ≡ false
    other h true p = absurd (let bad : true ≡ false = sym e ∙ ap (λ k. is_among k cs) (sym (eqb-true s.station n p)) ∙ h in cc)
    other h false p = refl

    go : (b : Bool) → is_among s.station cs ≡ b → Absent n (stations (without cs ss)) → Absent n (stations (cond (not b) (s ∷ without cs ss) (without cs ss)))
    go true h rest = rest
    go false h rest = (other h (s.station == n) refl, rest)

pub given_up_never : {M : Type 0} (size : List (Datagram M) → ℕ) (retry n after : ℕ) (ring : List Stop) (t : Tour) (f : Frame M) (fs : List (Frame M)) → Visits size retry ring t (f ∷ fs) → f.fate ≡ RingFate.Lost after → nat_lt t.missed retry ≡ false →
    is_among n (carried ring f.sent) ≡ true → NeverCarried ring n fs
given_up_never size retry n after ring t f fs v e m c =
    let cs = carried ring f.sent in
    let next : Tour = record { opening = without cs t.opening; live = without cs t.live; last = visited t.opening (last_of t.last cs); again = None; missed = 0 } in
    let is : tour_after retry t cs f f.fate ≡ next = ap (tour_after retry t cs f) e ∙ ap (λ b. if b then record t { again = Some cs; missed = suc t.missed } else next) m in
    never size retry n ring (tour_after retry t cs f f.fate) fs v.1 (subst (Gone n) (sym is) (record { opening = gone_without n cs t.opening c; live = gone_without n cs t.live c; again = tt }))

-- and before that they come again
pub lost_again : {M : Type 0} (size : List (Datagram M) → ℕ) (retry after : ℕ) (ring : List Stop) (t : Tour) (f g : Frame M) (fs : List (Frame M)) → Visits size retry ring t (f ∷ g ∷ fs) → f.fate ≡ RingFate.Lost after → nat_lt t.missed retry ≡ true →
    carried ring g.sent ≡ carried ring f.sent
lost_again size retry after ring t f g fs v e m =
    let cs = carried ring f.sent in
    let next : Tour = record t { again = Some cs; missed = suc t.missed } in
    let gone : Tour = record { opening = without cs t.opening; live = without cs t.live; last = visited t.opening (last_of t.last cs); again = None; missed = 0 } in
    let is : tour_after retry t cs f f.fate ≡ next = ap (tour_after retry t cs f) e ∙ ap (λ b. if b then next else gone) m in
    let w = v.1.0 in
    subst (λ u. IsVisit (size g.sent) u.again u.opening (round ring u.last u.live) (carried ring g.sent)) is w

-- the frames lost in a row, by what comes again
abbrev LostSo : {M : Type 0} → List Stop → ℕ → Option (List ℕ) → List (Frame M) → Type 0
LostSo ring missed None done = missed ≡ 0
LostSo ring missed (Some cs) done = AllLost ring cs (drop (length done - missed) done)

-- a give-up stands behind so many lost frames in a row, each of which carried the same slaves
record History {M : Type 0} (retry : ℕ) (ring : List Stop) (t : Tour) (done : List (Frame M)) : Type 0 where
  pub most : t.missed ≤ retry
  pub long : t.missed ≤ length done
  pub lost : LostSo ring t.missed t.again done

drop_whole : {X : Type 0} (l : List X) (k : ℕ) → length l ≤ k → drop k l ≡ []
drop_whole [] zero e = refl
drop_whole [] (suc k) e = refl
drop_whole (x ∷ l) zero e = absurd (omega (arith, e))
drop_whole (x ∷ l) (suc k) e = drop_whole l k (omega (arith, e))

lost_more : {M : Type 0} (ring : List Stop) (cs : List ℕ) (fs : List (Frame M)) (f : Frame M) → AllLost ring cs fs → IsLost f.fate → carried ring f.sent ≡ cs → AllLost ring cs (fs ++ f ∷ [])
lost_more ring cs [] f a l e = ((l, e), tt)
lost_more ring cs (g ∷ fs) f a l e = (a.0, lost_more ring cs fs f a.1 l e)

-- the frames lost before a frame carried what it carries
lost_same : {M : Type 0} (size missed : ℕ) (ring : List Stop) (again : Option (List ℕ)) (opening ss : List Stop) (done : List (Frame M)) (cs : List ℕ) → missed ≤ length done → LostSo ring missed again done → IsVisit size again opening ss cs →
    AllLost ring cs (drop (length done - missed) done)
lost_same size missed ring None opening ss done cs m l v = subst (AllLost ring cs) (sym (drop_whole done (length done - missed) (omega (arith, l)))) tt
lost_same size missed ring (Some same) opening ss done cs m l v = subst (λ c. AllLost ring c (drop (length done - missed) done)) (sym v) l

history_after : {M : Type 0} (size retry : ℕ) (ring : List Stop) (t : Tour) (done : List (Frame M)) (f : Frame M) (fate : RingFate) → f.fate ≡ fate → IsVisit size t.again t.opening (round ring t.last t.live) (carried ring f.sent) → History retry ring t done →
    History retry ring (tour_after retry t (carried ring f.sent) f fate) (done ++ f ∷ [])
history_after size retry ring t done f RingFate.Back e v h = record { most = omega arith; long = omega arith; lost = refl }
history_after {M} size retry ring t done f (RingFate.Lost after) e v h = go (leb_tells (suc t.missed) retry) (nat_lt t.missed retry) refl
  where
    cs : List ℕ
    cs = carried ring f.sent

    lost : Tour
    lost = record t { again = Some cs; missed = suc t.missed }

    gone : Tour
    gone = record { opening = without cs t.opening; live = without cs t.live; last = visited t.opening (last_of t.last cs); again = None; missed = 0 }

    is_lost : IsLost f.fate
    is_lost = subst IsLost (sym e) tt

    again : suc t.missed ≤ retry → History retry ring lost (done ++ f ∷ [])
    again less =
        let l = length-append done (f ∷ []) in
        let m = h.long in
        let same : drop (length (done ++ f ∷ []) - suc t.missed) (done ++ f ∷ []) ≡ drop (length done - t.missed) done ++ f ∷ [] =
        ap (λ k. drop k (done ++ f ∷ [])) (omega (arith, l, m)) ∙ drop-append-le (length done - t.missed) done (f ∷ []) (omega (arith, m)) in
        record {
          most = less;
          long = omega (arith, l, m);
          lost = subst (AllLost ring cs) (sym same) (lost_more ring cs (drop (length done - t.missed) done) f (lost_same size t.missed ring t.again t.opening (round ring t.last t.live) done cs h.long h.lost v) is_lost refl);
        }

    go : ((leb (suc t.missed) retry ≡ true) × (suc t.missed ≤ retry)) ⊎ ((leb (suc t.missed) retry ≡ false) × (retry < suc t.missed)) → (b : Bool) → nat_lt t.missed retry ≡ b → History retry ring (if b then lost else gone) (done ++ f ∷ [])
    go tells false p = record { most = omega arith; long = omega arith; lost = refl }
    go (inl c) true p = again c.1
    go (inr c) true p = absurd (let bad : true ≡ false = sym p ∙ c.0 in cc)

history_over : {M : Type 0} (size : List (Datagram M) → ℕ) (retry : ℕ) (ring : List Stop) (t : Tour) (done fs rest : List (Frame M)) → Visits size retry ring t (fs ++ rest) → History retry ring t done →
    History retry ring (tour_over retry ring t fs) (done ++ fs) × Visits size retry ring (tour_over retry ring t fs) rest
history_over size retry ring t done [] rest v h = (subst (History retry ring t) (sym (append-nil done)) h, v)
history_over size retry ring t done (f ∷ fs) rest v h =
    let next = history_over size retry ring (tour_after retry t (carried ring f.sent) f f.fate) (done ++ f ∷ []) fs rest v.1 (history_after (size f.sent) retry ring t done f f.fate refl v.0 h) in
    (subst (History retry ring (tour_over retry ring (tour_after retry t (carried ring f.sent) f f.fate) fs)) (append_assoc done (f ∷ []) fs) next.0, next.1)

given_up_at : {M : Type 0} (size : List (Datagram M) → ℕ) (retry : ℕ) (ring stops : List Stop) (front : List (Frame M)) (f : Frame M) (rest : List (Frame M)) → Visits size retry ring (new_tour stops) (front ++ f ∷ rest) →
    nat_lt (tour_over retry ring (new_tour stops) front).missed retry ≡ false →
    ((retry ≤ length front) × AllLost ring (carried ring f.sent) (drop (length front - retry) front)) × Visits size retry ring (tour_over retry ring (new_tour stops) front) (f ∷ rest)
given_up_at size retry ring stops front f rest v e =
    let t = tour_over retry ring (new_tour stops) front in
    let begins : History retry ring (new_tour stops) [] = record { most = omega arith; long = omega arith; lost = refl } in
    let h = history_over size retry ring (new_tour stops) [] front (f ∷ rest) v begins in
    let all : t.missed ≡ retry = enough t.missed retry e h.0.most in
    let a = lost_same (size f.sent) t.missed ring t.again t.opening (round ring t.last t.live) front (carried ring f.sent) h.0.long h.0.lost h.1.0 in
    ((subst (λ k. k ≤ length front) all h.0.long, subst (λ k. AllLost ring (carried ring f.sent) (drop (length front - k) front)) all a), h.1)
  where
    enough : (m r : ℕ) → nat_lt m r ≡ false → m ≤ r → m ≡ r
    enough m r e l = elim (leb_tells (suc m) r) [ inl c ↦ absurd (let bad : true ≡ false = sym c.0 ∙ e in cc) | inr c ↦ let n = c.1 in omega (arith, l, n) ]

take_over : {X : Type 0} (xs : List X) (y : X) (rest : List X) (n : ℕ) → length xs ≡ n → take (suc n) (xs ++ y ∷ rest) ≡ xs ++ y ∷ []
take_over [] y rest zero e = refl
take_over [] y rest (suc n) e = absurd (omega (arith, e))
take_over (x ∷ xs) y rest zero e = absurd (omega (arith, e))
take_over (x ∷ xs) y rest (suc n) e = ap (λ l. x ∷ l) (take_over xs y rest n (omega (arith, e)))

drop_over : {X : Type 0} (xs : List X) (y : X) (rest : List X) → drop (suc (length xs)) (xs ++ y ∷ rest) ≡ rest
drop_over [] y rest = refl
drop_over (x ∷ xs) y rest = drop_over xs y rest

length-drop : {X : Type 0} (k : ℕ) (l : List X) → length (drop k l) ≡ length l - k
length-drop zero l = omega arith
length-drop (suc k) [] = omega arith
length-drop (suc k) (x ∷ l) = length-drop k l ∙ omega arith

lost_as : (fate : RingFate) → IsLost fate → (after : ℕ) × (fate ≡ RingFate.Lost after)
lost_as RingFate.Back l = absurd l
lost_as (RingFate.Lost after) l = (after, refl)

missed_all : {M : Type 0} (ring : List Stop) (station : ℕ) (cs : List ℕ) (fs : List (Frame M)) (f : Frame M) → is_among station cs ≡ true → AllLost ring cs fs → IsLost f.fate → carried ring f.sent ≡ cs → AllMissed ring station (fs ++ f ∷ [])
missed_all ring station cs [] f m a l e = ((l, ap (is_among station) e ∙ m), tt)
missed_all ring station cs (g ∷ fs) f m a l e = ((a.0.0, ap (is_among station) a.0.1 ∙ m), missed_all ring station cs fs f m a.1 l e)

pub is_given_up : {M : Type 0} (size : List (Datagram M) → ℕ) (retry station : ℕ) (ring stops : List Stop) (front : List (Frame M)) (f : Frame M) (rest : List (Frame M)) → Visits size retry ring (new_tour stops) (front ++ f ∷ rest) →
    IsLost f.fate → nat_lt (tour_over retry ring (new_tour stops) front).missed retry ≡ false → is_among station (carried ring f.sent) ≡ true → IsGivenUp retry ring station (length front) (front ++ f ∷ rest)
is_given_up size retry station ring stops front f rest v l e m =
    let a = given_up_at size retry ring stops front f rest v e in
    let g = length front in
    let lost = drop (g - retry) front in
    let long : length lost ≡ retry = length-drop (g - retry) front ∙ (let first = a.0.0 in omega (arith, first)) in
    let cut : take (suc retry) (drop (g - retry) (front ++ f ∷ rest)) ≡ lost ++ f ∷ [] =
    ap (take (suc retry)) (drop-append-le (g - retry) front (f ∷ rest) (omega arith)) ∙ take_over lost f rest retry long in
    let fate = lost_as f.fate l in
    record {
      first = a.0.0;
      sent = let k = length-append front (f ∷ rest) in omega (arith, k);
      missed = subst (AllMissed ring station) (sym cut) (missed_all ring station (carried ring f.sent) lost f m a.0.1 l refl);
      behind = subst (NeverCarried ring station) (sym (drop_over front f rest)) (given_up_never size retry station fate.0 ring (tour_over retry ring (new_tour stops) front) f rest a.1 fate.1 e m);
    }
