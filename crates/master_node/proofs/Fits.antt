-- THE SLAVES OF A LOST FRAME have room in the next.
use Rattle.std.proofs.Common.{◌≡◌, ◌≤◌, ◌<◌, ◌+◌, ℕ, zero, suc, Bool, true, false, List, [], ◌∷◌, ◌++◌, length, drop, refl, sym, ap, ◌∙◌, subst, arith}
use Rattle.std.specs.Prelude.{IfSome, slice_get}
use Rattle.std.proofs.lemmas.Bool.{eq-eqb}
use Rattle.life_runs.specs.of_mailbox_master.Any.{in_half_of}
use Rattle.life_runs.specs.of_master_hand.declared.hand.InHand.{InHand}
use Rattle.life_runs.specs.of_master_side.Again.{HasNoRoom, IsOnWay, Repeats}
use Rattle.life_runs.specs.of_master_side.Carried.{choice_of, is_read}
use Rattle.life_runs.specs.of_master_side.Sent.{gram_len}
use Rattle.life_runs.specs.of_master_side.declared.hand.Hand.{Ghosts}
use Rattle.life_runs.specs.of_master_tour.Made.{is_in}
use Rattle.life_runs.specs.of_master_tour.Rooms.{LosesAgain, Looks, StandOnWay, StandRepeats, StopOnWay, StopRepeats, Visits, stand_len, stop_len}
use Rattle.life_runs.specs.of_master_tour.Walks.{StepsAt, EachPair}
use Rattle.life_runs.specs.of_master_tour.declared.stop.Stand.{Stand}
use Rattle.life_runs.specs.of_master_tour.declared.stop.Stop.{Stop}
use Rattle.master_node.specs.Kept.{StopStays}
use Rattle.master_node.specs.Rooms.{FitAgain, FitFrom, FitUnder, HoldsAt, IsSentStop, SendsSame, Takes, len_in}
use Rattle.master_node.proofs.Lefts.{true_false, in_here, in_there, not_in}

-- WHAT IS IN A SLAVE'S HAND leaves what it sends
module _ {G : Ghosts InHand} (s t : Stop InHand G) (k : SendsSame s t) where
  chosen : choice_of t.side.duty t.side.passing (in_half_of t.side.inn).state t.side.turn t.side.paused t.side.out.state ≡ choice_of s.side.duty s.side.passing (in_half_of s.side.inn).state s.side.turn s.side.paused s.side.out.state
  chosen = λ i. choice_of (k.duty i) (k.passing i) (in_half_of (k.inn i)).state (k.turn i) (k.paused i) (k.out i).state

  side_way : IsOnWay s.side → IsOnWay t.side
  side_way w = k.carried ∙ w ∙ sym chosen

  side_again : Repeats s.side → Repeats t.side
  side_again r = record { same = side_way r.same; unread = λ e. ap (λ z. is_read (in_half_of z).state) k.inn ∙ r.unread (sym k.carried ∙ e) }

  stand_way : (z : Stand) → StandOnWay z s.side → StandOnWay z t.side
  stand_way (Stand.Opening up) w = tt
  stand_way Stand.Open w = side_way w
  stand_way Stand.Gone w = w

  stand_again : (z : Stand) → StandRepeats z s.side → StandRepeats z t.side
  stand_again (Stand.Opening up) w = tt
  stand_again Stand.Open w = side_again w
  stand_again Stand.Gone w = w

  stand_long : (z : Stand) → stand_len z t.side ≡ stand_len z s.side
  stand_long (Stand.Opening up) = refl
  stand_long Stand.Open = λ i. gram_len (k.out i) (k.inn i) (k.carried i)
  stand_long Stand.Gone = refl

  pub sends_way : StopOnWay s → StopOnWay t
  sends_way w = subst (λ z. StandOnWay z t.side) (sym k.stand) (stand_way s.stand w)

  pub sends_again : StopRepeats s → StopRepeats t
  sends_again r = subst (λ z. StandRepeats z t.side) (sym k.stand) (stand_again s.stand r)

  pub sends_len : stop_len t ≡ stop_len s
  sends_len = ap (λ z. stand_len z t.side) k.stand ∙ stand_long s.stand

pub stays_sends : {G : Ghosts InHand} (s t : Stop InHand G) → StopStays s t → SendsSame s t
stays_sends s t k = record { out = k.side.side.out_is; inn = k.side.side.in_is; duty = k.side.side.duty_is; passing = k.side.passing; turn = k.side.turn; paused = k.side.paused; carried = k.side.carried; stand = k.stand }

pub side_sends : {G : Ghosts InHand} (s t : Stop InHand G) → t.side ≡ s.side → t.stand ≡ s.stand → SendsSame s t
side_sends s t e f = record { out = ap (λ z. z.out) e; inn = ap (λ z. z.inn) e; duty = ap (λ z. z.duty) e; passing = ap (λ z. z.passing) e; turn = ap (λ z. z.turn) e; paused = ap (λ z. z.paused) e; carried = ap (λ z. z.carried) e; stand = f }

-- A VISIT
pub takes_not : {G : Ghosts InHand} (octets : List ℕ) (fits grows : Bool) (s t : Stop InHand G) → fits ≡ false → grows ≡ false → Looks octets fits s t → Takes octets octets grows s t
takes_not octets fits grows s t n g k = record {
  way = λ y. absurd (true_false grows y g);
  again = λ r. (λ y. absurd (true_false grows y g), λ z. (k.again r).2 n);
  stays = λ z. refl;
}

under_grown : (u grows : Bool) → (u ≡ false → grows ≡ false) → grows ≡ true → u ≡ true
under_grown true grows stays_so y = refl
under_grown false grows stays_so y = absurd (true_false grows y (stays_so refl))

under_stayed : (u grows : Bool) → (u ≡ true → grows ≡ true) → grows ≡ false → u ≡ false
under_stayed true grows grows_so n = absurd (true_false grows (grows_so refl) n)
under_stayed false grows grows_so n = refl

pub takes_visit : {G : Ghosts InHand} (before behind : List ℕ) (grows : Bool) (s t u : Stop InHand G) → (t.under ≡ true → grows ≡ true) → (t.under ≡ false → grows ≡ false) → Visits before behind s t → SendsSame t u → Takes before behind grows s u
takes_visit before behind grows s t u grows_so stays_so v k =
    let long : stop_len u ≡ stop_len t = sends_len t u k in
    record {
      way = λ y. let w = v.way (under_grown t.under grows stays_so y) in (sends_way t u k w.0, w.1 ∙ ap (λ n. length before + (12 + n)) (sym long));
      again = λ r. let a = v.again r in (λ y. subst (λ n. n ≤ stop_len s) (sym long) (a.1 (under_grown t.under grows stays_so y)), λ z. a.0 (under_stayed t.under grows grows_so z));
      stays = λ z. v.still (under_stayed t.under grows grows_so z);
    }

pub takes_before : {G : Ghosts InHand} (before behind : List ℕ) (grows : Bool) (s t u : Stop InHand G) → (StopRepeats s → StopRepeats t × (stop_len t ≡ stop_len s)) → Takes before behind grows t u → Takes before behind grows s u
takes_before before behind grows s t u h k = record {
  way = k.way;
  again = λ r. let x = h r in let a = k.again x.0 in (λ y. subst (λ n. stop_len u ≤ n) x.1 (a.0 y), λ z. subst (λ n. HasNoRoom before n) x.1 (a.1 z));
  stays = k.stays;
}

-- ONE PLACE GOES ON
pub holds_else : {S : Type 0} (P : S → Type 0) (R : S → S → Type 0) (i : ℕ) (xs ys : List S) → StepsAt R i xs ys → (q : ℕ) → (q ≡ i → ⊥) → HoldsAt P xs q → HoldsAt P ys q
holds_else P R zero [] ys e q n h = absurd e
holds_else P R (suc i) [] ys e q n h = absurd e
holds_else P R zero (x ∷ xs) [] e q n h = absurd e
holds_else P R (suc i) (x ∷ xs) [] e q n h = absurd e
holds_else P R zero (x ∷ xs) (y ∷ ys) e zero n h = absurd (n refl)
holds_else P R zero (x ∷ xs) (y ∷ ys) e (suc q) n h = subst (λ z. HoldsAt P z q) (sym e.1) h
holds_else P R (suc i) (x ∷ xs) (y ∷ ys) e zero n h = subst P (sym e.0) h
holds_else P R (suc i) (x ∷ xs) (y ∷ ys) e (suc q) n h = holds_else P R i xs ys e.1 q (λ z. n (ap suc z)) h

module _ {G : Ghosts InHand} where
  len_else : (R : Stop InHand G → Stop InHand G → Type 0) (i : ℕ) (xs ys : List (Stop InHand G)) → StepsAt R i xs ys → (q : ℕ) → (q ≡ i → ⊥) → len_in ys q ≡ len_in xs q
  len_else R zero [] ys e q n = absurd e
  len_else R (suc i) [] ys e q n = absurd e
  len_else R zero (x ∷ xs) [] e q n = absurd e
  len_else R (suc i) (x ∷ xs) [] e q n = absurd e
  len_else R zero (x ∷ xs) (y ∷ ys) e zero n = absurd (n refl)
  len_else R zero (x ∷ xs) (y ∷ ys) e (suc q) n = ap (λ z. len_in z q) e.1
  len_else R (suc i) (x ∷ xs) (y ∷ ys) e zero n = ap (λ z. stop_len z) e.0
  len_else R (suc i) (x ∷ xs) (y ∷ ys) e (suc q) n = len_else R i xs ys e.1 q (λ z. n (ap suc z))

  -- what a visit of a slave that comes again says
  pub again_here : (before behind : List ℕ) (grows : Bool) (i : ℕ) (xs ys : List (Stop InHand G)) → StepsAt (λ s t. Takes before behind grows s t) i xs ys → HoldsAt (λ s. StopRepeats s) xs i →
      (grows ≡ true → len_in ys i ≤ len_in xs i) × (grows ≡ false → HasNoRoom before (len_in xs i))
  again_here before behind grows zero [] ys e h = absurd e
  again_here before behind grows (suc i) [] ys e h = absurd e
  again_here before behind grows zero (x ∷ xs) [] e h = absurd e
  again_here before behind grows (suc i) (x ∷ xs) [] e h = absurd e
  again_here before behind grows zero (x ∷ xs) (y ∷ ys) e h = e.0.again h
  again_here before behind grows (suc i) (x ∷ xs) (y ∷ ys) e h = again_here before behind grows i xs ys e.1 h

  pub way_here : (before behind : List ℕ) (i : ℕ) (xs ys : List (Stop InHand G)) → StepsAt (λ s t. IsSentStop t × (length behind ≡ length before + (12 + stop_len t))) i xs ys → HoldsAt (λ s. IsSentStop s) ys i × (length behind ≡ length before + (12 + len_in ys i))
  way_here before behind zero [] ys e = absurd e
  way_here before behind (suc i) [] ys e = absurd e
  way_here before behind zero (x ∷ xs) [] e = absurd e
  way_here before behind (suc i) (x ∷ xs) [] e = absurd e
  way_here before behind zero (x ∷ xs) (y ∷ ys) e = e.0
  way_here before behind (suc i) (x ∷ xs) (y ∷ ys) e = way_here before behind i xs ys e.1

  pub stays_here : (before behind : List ℕ) (grows : Bool) (i : ℕ) (xs ys : List (Stop InHand G)) → grows ≡ false → StepsAt (λ s t. Takes before behind grows s t) i xs ys → behind ≡ before
  stays_here before behind grows zero [] ys n e = absurd e
  stays_here before behind grows (suc i) [] ys n e = absurd e
  stays_here before behind grows zero (x ∷ xs) [] n e = absurd e
  stays_here before behind grows (suc i) (x ∷ xs) [] n e = absurd e
  stays_here before behind grows zero (x ∷ xs) (y ∷ ys) n e = e.0.stays n
  stays_here before behind grows (suc i) (x ∷ xs) (y ∷ ys) n e = stays_here before behind grows i xs ys n e.1

  module _ (P : Stop InHand G → Type 0) where
    pub fit_most : (ss : List (Stop InHand G)) (most n : ℕ) (ps : List ℕ) → FitFrom P ss most n ps → n ≤ most
    fit_most ss most n [] f = f
    fit_most ss most n (p ∷ ps) f = let l = fit_most ss most (n + (12 + len_in ss p)) ps f.1 in omega (arith, l)

    pub fit_less : (ss : List (Stop InHand G)) (most n m : ℕ) (ps : List ℕ) → m ≤ n → FitFrom P ss most n ps → FitFrom P ss most m ps
    fit_less ss most n m [] l f = omega (arith, l, f)
    fit_less ss most n m (p ∷ ps) l f = (f.0, fit_less ss most (n + (12 + len_in ss p)) (m + (12 + len_in ss p)) ps (omega (arith, l)) f.1)

    pub fit_wider : (ss : List (Stop InHand G)) (most wider n : ℕ) (ps : List ℕ) → most ≤ wider → FitFrom P ss most n ps → FitFrom P ss wider n ps
    fit_wider ss most wider n [] l f = omega (arith, l, f)
    fit_wider ss most wider n (p ∷ ps) l f = (f.0, fit_wider ss most wider (n + (12 + len_in ss p)) ps l f.1)

    -- one more
    pub fit_more : (ss : List (Stop InHand G)) (most wider n p : ℕ) (ps : List ℕ) → HoldsAt P ss p → most + (12 + len_in ss p) ≤ wider → FitFrom P ss most n ps → FitFrom P ss wider n (ps ++ p ∷ [])
    fit_more ss most wider n p [] h l f = (h, omega (arith, l, f))
    fit_more ss most wider n p (q ∷ ps) h l f = (f.0, fit_more ss most wider (n + (12 + len_in ss q)) p ps h l f.1)

    -- another slave is visited
    pub fit_else : (R : Stop InHand G → Stop InHand G → Type 0) (i : ℕ) (xs ys : List (Stop InHand G)) (most n : ℕ) (ps : List ℕ) → StepsAt R i xs ys → is_in i ps ≡ false → FitFrom P xs most n ps → FitFrom P ys most n ps
    fit_else R i xs ys most n [] e a f = f
    fit_else R i xs ys most n (q ∷ ps) e a f =
        let apart : (q ≡ i → ⊥) = λ z. true_false (is_in i (q ∷ ps)) (in_here i q ps (eq-eqb i q (sym z))) a in
        let rest = not_in i ps (λ t. true_false (is_in i (q ∷ ps)) (in_there i q ps t) a) in
        (holds_else P R i xs ys e q apart f.0, subst (λ z. FitFrom P ys most (n + (12 + z)) ps) (sym (len_else R i xs ys e q apart)) (fit_else R i xs ys most (n + (12 + len_in xs q)) ps e rest f.1))

    -- where no slave of it is left none of its places is
    pub fit_ends : (ss : List (Stop InHand G)) (most n : ℕ) (visit : List ℕ) (passed : ℕ) → IfSome (slice_get visit passed) (λ p. length ss ≤ p) → FitFrom P ss most n (drop passed visit) → drop passed visit ≡ []
    fit_ends ss most n [] zero e f = refl
    fit_ends ss most n [] (suc passed) e f = refl
    fit_ends ss most n (x ∷ xs) zero e f = absurd (let l = inside ss x f.0 in omega (arith, l, e))
      where
        inside : (ts : List (Stop InHand G)) (p : ℕ) → HoldsAt P ts p → p < length ts
        inside [] p h = absurd h
        inside (t ∷ ts) zero h = omega arith
        inside (t ∷ ts) (suc p) h = let l = inside ts p h in omega (arith, l)
    fit_ends ss most n (x ∷ xs) (suc passed) e f = fit_ends ss most n xs passed e f

  -- ALL SLAVES GO ON
  each_here : (P Q : Stop InHand G → Type 0) (R : Stop InHand G → Stop InHand G → Type 0) → ((s t : Stop InHand G) → R s t → P s → Q t × (stop_len t ≤ stop_len s)) → (ss ts : List (Stop InHand G)) → EachPair R ss ts → (p : ℕ) → HoldsAt P ss p → HoldsAt Q ts p × (len_in ts p ≤ len_in ss p)
  each_here P Q R h [] [] e p f = absurd f
  each_here P Q R h [] (t ∷ ts) e p f = absurd e
  each_here P Q R h (s ∷ ss) [] e p f = absurd e
  each_here P Q R h (s ∷ ss) (t ∷ ts) e zero f = h s t e.0 f
  each_here P Q R h (s ∷ ss) (t ∷ ts) e (suc p) f = each_here P Q R h ss ts e.1 p f

  pub fit_pairs : (P Q : Stop InHand G → Type 0) (R : Stop InHand G → Stop InHand G → Type 0) → ((s t : Stop InHand G) → R s t → P s → Q t × (stop_len t ≤ stop_len s)) → (ss ts : List (Stop InHand G)) → EachPair R ss ts → (most n m : ℕ) (ps : List ℕ) → m ≤ n → FitFrom P ss most n ps → FitFrom Q ts most m ps
  fit_pairs P Q R h ss ts e most n m [] l f = omega (arith, l, f)
  fit_pairs P Q R h ss ts e most n m (p ∷ ps) l f =
      let x = each_here P Q R h ss ts e p f.0 in
      let y = x.1 in
      (x.0, fit_pairs P Q R h ss ts e most (n + (12 + len_in ss p)) (m + (12 + len_in ts p)) ps (omega (arith, l, y)) f.1)

  -- the slaves of a lost frame, where only what is in their hands may have changed
  pub again_on : (R : Stop InHand G → Stop InHand G → Type 0) → ((s t : Stop InHand G) → R s t → SendsSame s t) → (ss ts : List (Stop InHand G)) (visit : List ℕ) → EachPair R ss ts → FitAgain visit ss → FitAgain visit ts
  again_on R h ss ts visit e f = record {
    few = f.few;
    fit = fit_pairs (λ s. StopRepeats s) (λ s. StopRepeats s) R (λ s t k r. (sends_again s t (h s t k) r, (let l = sends_len s t (h s t k) in omega (arith, l)))) ss ts e 1514 16 16 visit (omega arith) f.fit;
  }

  -- the frame was lost
  pub again_lost : (R : Stop InHand G → Stop InHand G → Type 0) → ((s t : Stop InHand G) → R s t → LosesAgain s t) → (ss ts : List (Stop InHand G)) (visit : List ℕ) → EachPair R ss ts → FitUnder visit ss → FitAgain visit ts
  again_lost R h ss ts visit e f = record {
    few = f.few;
    fit = fit_pairs (λ s. IsSentStop s) (λ s. StopRepeats s) R (λ s t k w. h s t k w.1 w.0) ss ts e 1514 16 16 visit (omega arith) f.fit;
  }
