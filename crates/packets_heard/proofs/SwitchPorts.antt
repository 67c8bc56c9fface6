-- The events of a port: what begins, arrives and goes down there.
use Rattle.std.proofs.Common.{◌≡◌, ℕ, suc, ◌==◌, Bool, true, false, Option, Some, None, List, [], ◌∷◌, ◌++◌, map, refl, ap, ap₂, sym, ◌∙◌, subst, arith, append_assoc, append-nil, if◌then◌else◌, eqb-true}
use Rattle.std.proofs.lemmas.Bool.Decides.{nat_tests}
use Rattle.packets_heard.specs.Events.{SwitchEvent, Numbered, IsPort, begun_number, begun_at, down_number, downs_at, arrived_number, arrived_at, DownLast, down_of}
use Rattle.packets_heard.specs.Turns.{Switch, Begin, Turn, host_events, begin_events, begins_events, brought_events, down_events, numbered, before_events, behind_events, turn_events, all_events, folded, is_among, MayBegins, MayDown, downed, MayTurns, forward_frame, forwards_in, forwards_of, brought_in, brought_of, given_up_of}

pub numbered-append : {P : Type 0} (n : ℕ) (xs ys : List (SwitchEvent P)) → numbered n (xs ++ ys) ≡ numbered n xs ++ numbered n ys
numbered-append n [] ys = refl
numbered-append n (x ∷ xs) ys = ap (λ l. record { event = x; number = n } ∷ l) (numbered-append n xs ys)

map-append : (f : ℕ → ℕ) (xs ys : List ℕ) → map f (xs ++ ys) ≡ map f xs ++ map f ys
map-append f [] ys = refl
map-append f (x ∷ xs) ys = ap (λ l. f x ∷ l) (map-append f xs ys)

-- one number, or none
abbrev one_if : Bool → ℕ → List ℕ
one_if b n = if b then n ∷ [] else []

module _ (P : Type 0) (port : ℕ) where
  pub begun-append : (xs ys : List (Numbered P)) → begun_at port (xs ++ ys) ≡ begun_at port xs ++ begun_at port ys
  begun-append [] ys = refl
  begun-append (x ∷ xs) ys = ap (λ l. begun_number port x.event x.number ++ l) (begun-append xs ys) ∙ sym (append_assoc (begun_number port x.event x.number) (begun_at port xs) (begun_at port ys))

  arrived-append : (xs ys : List (Numbered P)) → arrived_at port (xs ++ ys) ≡ arrived_at port xs ++ arrived_at port ys
  arrived-append [] ys = refl
  arrived-append (x ∷ xs) ys = ap (λ l. arrived_number port x.event x.number ++ l) (arrived-append xs ys) ∙ sym (append_assoc (arrived_number port x.event x.number) (arrived_at port xs) (arrived_at port ys))

  downs-append : (xs ys : List (Numbered P)) → downs_at port (xs ++ ys) ≡ downs_at port xs ++ downs_at port ys
  downs-append [] ys = refl
  downs-append (x ∷ xs) ys = ap (λ l. down_number port x.event x.number ++ l) (downs-append xs ys) ∙ sym (append_assoc (down_number port x.event x.number) (downs_at port xs) (downs_at port ys))

  -- WHAT BEGINS: the rows that carry packets
  begun_host : (n : ℕ) (h : Option P) → begun_at port (numbered n (host_events h)) ≡ []
  begun_host n None = refl
  begun_host n (Some p) = refl

  begun_begins : (n : ℕ) (bs : List (ℕ × Begin)) → begun_at port (numbered {P = P} n (begins_events bs)) ≡ forwards_in port n bs
  begun_begins n [] = refl
  begun_begins n (b ∷ bs) = go b.1 (begun_begins n bs)
    where
      go : (k : Begin) → begun_at port (numbered {P = P} n (begins_events bs)) ≡ forwards_in port n bs →
          begun_at port (numbered {P = P} n (begin_events b.0 k ++ begins_events bs)) ≡ forward_frame port n b.0 k ++ forwards_in port n bs
      go Begin.Forward e = ap (λ l. (if b.0 == port then n ∷ [] else []) ++ l) e
      go Begin.Other e = e

  begun_brought : (n : ℕ) (more : List (ℕ × P)) → begun_at port (numbered n (brought_events more)) ≡ []
  begun_brought n [] = refl
  begun_brought n (a ∷ more) = begun_brought n more

  begun_downs : (n : ℕ) (ps : List ℕ) → begun_at port (numbered {P = P} n (down_events ps)) ≡ []
  begun_downs n [] = refl
  begun_downs n (p ∷ ps) = begun_downs n ps

  pub begun_behind : (n : ℕ) (t : Turn P) → begun_at port (numbered n (behind_events t)) ≡ []
  begun_behind n t = ap (begun_at port) (numbered-append n (brought_events t.brought) (down_events t.downs)) ∙ begun-append (numbered n (brought_events t.brought)) (numbered n (down_events t.downs))
      ∙ ap₂ (λ (a b : List ℕ). a ++ b) (begun_brought n t.brought) (begun_downs n t.downs)

  begun_before : (n : ℕ) (t : Turn P) → begun_at port (numbered n (before_events t)) ≡ forwards_in port n t.begins
  begun_before n t = ap (begun_at port) (numbered-append n (host_events t.host) (begins_events t.begins)) ∙ begun-append (numbered n (host_events t.host)) (numbered n (begins_events t.begins))
      ∙ ap₂ (λ (a b : List ℕ). a ++ b) (begun_host n t.host) (begun_begins n t.begins)

  begun_turn : (n : ℕ) (t : Turn P) → begun_at port (turn_events n t) ≡ forwards_in port n t.begins
  begun_turn n t = begun-append (numbered n (before_events t)) (numbered (suc n) (behind_events t)) ∙ ap₂ (λ (a b : List ℕ). a ++ b) (begun_before n t) (begun_behind (suc n) t) ∙ append-nil (forwards_in port n t.begins)

  begun_all : (n : ℕ) (ts : List (Turn P)) → begun_at port (all_events n ts) ≡ forwards_of port n ts
  begun_all n [] = refl
  begun_all n (t ∷ ts) = begun-append (turn_events n t) (all_events (suc n) ts) ∙ ap₂ (λ (a b : List ℕ). a ++ b) (begun_turn n t) (begun_all (suc n) ts)

  -- WHAT ARRIVES: the packets that frames brought, with the number behind the frame
  module _ (slave : (port == 0) ≡ false) where
    other_port : (0 == port) ≡ false
    other_port = grind (arith, nat_tests, slave)

    arrived_host : (n : ℕ) (h : Option P) → arrived_at port (numbered n (host_events h)) ≡ []
    arrived_host n None = refl
    arrived_host n (Some p) = ap (λ b. (if b then n ∷ [] else []) ++ []) other_port

    arrived_begins : (n : ℕ) (bs : List (ℕ × Begin)) → arrived_at port (numbered {P = P} n (begins_events bs)) ≡ []
    arrived_begins n [] = refl
    arrived_begins n (b ∷ bs) = go b.1 (arrived_begins n bs)
      where
        go : (k : Begin) → arrived_at port (numbered {P = P} n (begins_events bs)) ≡ [] → arrived_at port (numbered {P = P} n (begin_events b.0 k ++ begins_events bs)) ≡ []
        go Begin.Forward e = e
        go Begin.Other e = e

    arrived_brought : (n : ℕ) (more : List (ℕ × P)) → arrived_at port (numbered (suc n) (brought_events more)) ≡ map (λ k. suc k) (brought_in port n more)
    arrived_brought n [] = refl
    arrived_brought n (a ∷ more) = go (a.0 == port) (arrived_brought n more)
      where
        go : (b : Bool) → arrived_at port (numbered (suc n) (brought_events more)) ≡ map (λ k. suc k) (brought_in port n more) →
            (if b then suc n ∷ [] else []) ++ arrived_at port (numbered (suc n) (brought_events more)) ≡ map (λ k. suc k) ((if b then n ∷ [] else []) ++ brought_in port n more)
        go true e = ap (λ l. suc n ∷ l) e
        go false e = e

    arrived_downs : (n : ℕ) (ps : List ℕ) → arrived_at port (numbered {P = P} n (down_events ps)) ≡ []
    arrived_downs n [] = refl
    arrived_downs n (p ∷ ps) = arrived_downs n ps

    arrived_before : (n : ℕ) (t : Turn P) → arrived_at port (numbered n (before_events t)) ≡ []
    arrived_before n t = ap (arrived_at port) (numbered-append n (host_events t.host) (begins_events t.begins)) ∙ arrived-append (numbered n (host_events t.host)) (numbered n (begins_events t.begins))
        ∙ ap₂ (λ (a b : List ℕ). a ++ b) (arrived_host n t.host) (arrived_begins n t.begins)

    arrived_behind : (n : ℕ) (t : Turn P) → arrived_at port (numbered (suc n) (behind_events t)) ≡ map (λ k. suc k) (brought_in port n t.brought)
    arrived_behind n t = ap (arrived_at port) (numbered-append (suc n) (brought_events t.brought) (down_events t.downs)) ∙ arrived-append (numbered (suc n) (brought_events t.brought)) (numbered (suc n) (down_events t.downs))
        ∙ ap₂ (λ (a b : List ℕ). a ++ b) (arrived_brought n t.brought) (arrived_downs (suc n) t.downs) ∙ append-nil (map (λ k. suc k) (brought_in port n t.brought))

    arrived_all : (n : ℕ) (ts : List (Turn P)) → arrived_at port (all_events n ts) ≡ map (λ k. suc k) (brought_of port n ts)
    arrived_all n [] = refl
    arrived_all n (t ∷ ts) =
        arrived-append (turn_events n t) (all_events (suc n) ts)
        ∙ ap₂ (λ (a b : List ℕ). a ++ b) (arrived-append (numbered n (before_events t)) (numbered (suc n) (behind_events t)) ∙ ap₂ (λ (a b : List ℕ). a ++ b) (arrived_before n t) (arrived_behind n t)) (arrived_all (suc n) ts)
        ∙ sym (map-append (λ k. suc k) (brought_in port n t.brought) (brought_of port (suc n) ts))

  -- WHAT GOES DOWN, once
  downs_before : (n : ℕ) (t : Turn P) → downs_at port (numbered n (before_events t)) ≡ []
  downs_before n t = host t.host
    where
      begins : (bs : List (ℕ × Begin)) → downs_at port (numbered {P = P} n (begins_events bs)) ≡ []
      begins [] = refl
      begins (b ∷ bs) = go b.1 (begins bs)
        where
          go : (k : Begin) → downs_at port (numbered {P = P} n (begins_events bs)) ≡ [] → downs_at port (numbered {P = P} n (begin_events b.0 k ++ begins_events bs)) ≡ []
          go Begin.Forward e = e
          go Begin.Other e = e

      host : (h : Option P) → downs_at port (numbered n (host_events h ++ begins_events t.begins)) ≡ []
      host None = begins t.begins
      host (Some p) = begins t.begins

  downs_brought : (n : ℕ) (more : List (ℕ × P)) (ps : List ℕ) → downs_at port (numbered n (brought_events more ++ down_events ps)) ≡ downs_at port (numbered {P = P} n (down_events ps))
  downs_brought n [] ps = refl
  downs_brought n (a ∷ more) ps = downs_brought n more ps

  downs_turn : (n : ℕ) (t : Turn P) → downs_at port (turn_events n t) ≡ downs_at port (numbered {P = P} (suc n) (down_events t.downs))
  downs_turn n t = downs-append (numbered n (before_events t)) (numbered (suc n) (behind_events t)) ∙ ap₂ (λ (a b : List ℕ). a ++ b) (downs_before n t) (downs_brought (suc n) t.brought t.downs)

  -- a port that is down goes down no more
  downs_none : (n : ℕ) (down ps : List ℕ) → MayDown down ps → is_among port down ≡ true → downs_at port (numbered {P = P} n (down_events ps)) ≡ []
  downs_none n down [] may is = refl
  downs_none n down (p ∷ ps) may is = go (p == port) refl (downs_none n (p ∷ down) ps may.1)
    where
      go : (b : Bool) → (p == port) ≡ b → (is_among port (p ∷ down) ≡ true → downs_at port (numbered {P = P} n (down_events ps)) ≡ []) → (if b then n ∷ [] else []) ++ downs_at port (numbered {P = P} n (down_events ps)) ≡ []
      go true e rest = absurd (let same : is_among p down ≡ true = ap (λ k. is_among k down) (eqb-true p port e) ∙ is in let clash = may.0 in cc)
      go false e rest = rest (ap (λ b. if b then true else is_among port down) e ∙ is)

  downs_once : (n : ℕ) (down ps : List ℕ) → MayDown down ps → downs_at port (numbered {P = P} n (down_events ps)) ≡ (if is_among port down then [] else if is_among port ps then n ∷ [] else [])
  downs_once n down ps may = go (is_among port down) refl
    where
      once : (ps down : List ℕ) → MayDown down ps → downs_at port (numbered {P = P} n (down_events ps)) ≡ (if is_among port ps then n ∷ [] else [])
      once [] down may = refl
      once (p ∷ ps) down may = here (p == port) refl (once ps (p ∷ down) may.1) (downs_none n (p ∷ down) ps may.1)
        where
          here : (b : Bool) → (p == port) ≡ b → downs_at port (numbered {P = P} n (down_events ps)) ≡ (if is_among port ps then n ∷ [] else []) → (is_among port (p ∷ down) ≡ true → downs_at port (numbered {P = P} n (down_events ps)) ≡ []) →
              (if b then n ∷ [] else []) ++ downs_at port (numbered {P = P} n (down_events ps)) ≡ (if (if b then true else is_among port ps) then n ∷ [] else [])
          here true e rest none = ap (λ l. n ∷ l) (none (ap (λ b. if b then true else is_among port down) e))
          here false e rest none = rest

      go : (b : Bool) → is_among port down ≡ b → downs_at port (numbered {P = P} n (down_events ps)) ≡ (if b then [] else if is_among port ps then n ∷ [] else [])
      go true is = downs_none n down ps may is
      go false is = once ps down may

  -- the ports that are down
  down_has : (down ps : List ℕ) → is_among port down ≡ true → is_among port (downed down ps) ≡ true
  down_has down [] is = is
  down_has down (p ∷ ps) is = down_has (p ∷ down) ps (go (p == port))
    where
      go : (b : Bool) → (if b then true else is_among port down) ≡ true
      go true = refl
      go false = is

  down_more : (down ps : List ℕ) → is_among port ps ≡ true → is_among port (downed down ps) ≡ true
  down_more down [] is = absurd (cc)
  down_more down (p ∷ ps) is = go (p == port) refl (λ e. down_has (p ∷ down) ps e) (λ e. down_more (p ∷ down) ps e)
    where
      go : (b : Bool) → (p == port) ≡ b → (is_among port (p ∷ down) ≡ true → is_among port (downed (p ∷ down) ps) ≡ true) → (is_among port ps ≡ true → is_among port (downed (p ∷ down) ps) ≡ true) → is_among port (downed (p ∷ down) ps) ≡ true
      go true e has more = has (ap (λ b. if b then true else is_among port down) e)
      go false e has more = more (sym (ap (λ b. if b then true else is_among port ps) e) ∙ is)

  down_not : (down ps : List ℕ) → is_among port down ≡ false → is_among port ps ≡ false → is_among port (downed down ps) ≡ false
  down_not down [] nay none = nay
  down_not down (p ∷ ps) nay none = go (p == port) refl (λ e f. down_not (p ∷ down) ps e f)
    where
      go : (b : Bool) → (p == port) ≡ b → (is_among port (p ∷ down) ≡ false → is_among port ps ≡ false → is_among port (downed (p ∷ down) ps) ≡ false) → is_among port (downed (p ∷ down) ps) ≡ false
      go true e rest = absurd (let clash : true ≡ false = sym (ap (λ b. if b then true else is_among port ps) e) ∙ none in cc)
      go false e rest = rest (ap (λ b. if b then true else is_among port down) e ∙ nay) (sym (ap (λ b. if b then true else is_among port ps) e) ∙ none)

  module _ {W : Type 0} (x : Switch W P) where
    downs_over : (n : ℕ) (down : List ℕ) (w : W) (ts : List (Turn P)) → MayTurns x down w ts → is_among port down ≡ true → downs_at port (all_events n ts) ≡ []
    downs_over n down w [] may is = refl
    downs_over n down w (t ∷ ts) may is =
        downs-append (turn_events n t) (all_events (suc n) ts)
        ∙ ap₂ (λ (a b : List ℕ). a ++ b) (downs_turn n t ∙ downs_none (suc n) down t.downs may.0.downs is) (downs_over (suc n) (downed down t.downs) _ ts may.1 (down_has down t.downs is))

    downs_all : (n : ℕ) (down : List ℕ) (w : W) (ts : List (Turn P)) → MayTurns x down w ts → is_among port down ≡ false → downs_at port (all_events n ts) ≡ down_of (given_up_of port n ts)
    downs_all n down w [] may nay = refl
    downs_all n down w (t ∷ ts) may nay =
        downs-append (turn_events n t) (all_events (suc n) ts)
        ∙ ap (λ l. l ++ downs_at port (all_events (suc n) ts)) (downs_turn n t ∙ downs_once (suc n) down t.downs may.0.downs ∙ ap (λ b. if b then [] else if is_among port t.downs then suc n ∷ [] else []) nay)
        ∙ go (is_among port t.downs) refl (downs_over (suc n) (downed down t.downs) _ ts may.1) (downs_all (suc n) (downed down t.downs) _ ts may.1)
      where
        go : (b : Bool) → is_among port t.downs ≡ b → (is_among port (downed down t.downs) ≡ true → downs_at port (all_events (suc n) ts) ≡ []) →
            (is_among port (downed down t.downs) ≡ false → downs_at port (all_events (suc n) ts) ≡ down_of (given_up_of port (suc n) ts)) →
            (if b then suc n ∷ [] else []) ++ downs_at port (all_events (suc n) ts) ≡ down_of (if b then Some n else given_up_of port (suc n) ts)
        go true e over later = ap (λ l. suc n ∷ l) (over (down_more down t.downs e))
        go false e over later = later (down_not down t.downs nay e)

    -- nothing begins at a port that is down
    none_begins : (n : ℕ) (down : List ℕ) (w : W) (bs : List (ℕ × Begin)) → MayBegins x down w bs → is_among port down ≡ true → forwards_in port n bs ≡ []
    none_begins n down w [] may is = refl
    none_begins n down w (b ∷ bs) may is = go b.1 (b.0 == port) refl (none_begins n down (folded x w (begin_events b.0 b.1)) bs may.2 is)
      where
        go : (k : Begin) (c : Bool) → (b.0 == port) ≡ c → forwards_in port n bs ≡ [] → forward_frame port n b.0 k ++ forwards_in port n bs ≡ []
        go Begin.Other c e rest = rest
        go Begin.Forward true e rest = absurd (let same : is_among b.0 down ≡ true = ap (λ k. is_among k down) (eqb-true b.0 port e) ∙ is in let clash = may.0 in cc)
        go Begin.Forward false e rest = ap (λ c. (if c then n ∷ [] else []) ++ forwards_in port n bs) e ∙ rest

    none_over : (n : ℕ) (down : List ℕ) (w : W) (ts : List (Turn P)) → MayTurns x down w ts → is_among port down ≡ true → forwards_of port n ts ≡ []
    none_over n down w [] may is = refl
    none_over n down w (t ∷ ts) may is = ap₂ (λ (a b : List ℕ). a ++ b) (none_begins n down _ t.begins may.0.begins is) (none_over (suc n) (downed down t.downs) _ ts may.1 (down_has down t.downs is))

    -- GOING DOWN IS THE LAST THING AT A PORT
    calm : (n : ℕ) (es : List (SwitchEvent P)) (rest : List (Numbered P)) → downs_at port (numbered n es) ≡ [] → DownLast port rest → DownLast port (numbered n es ++ rest)
    calm n [] rest none last = last
    calm n (e ∷ es) rest none last = (λ d. absurd (still e d none), calm n es rest (tail e none) last)
      where
        tail : (e : SwitchEvent P) → down_number port e n ++ downs_at port (numbered n es) ≡ [] → downs_at port (numbered n es) ≡ []
        tail (SwitchEvent.Arrive p packet) none = none
        tail (SwitchEvent.Begun p) none = none
        tail (SwitchEvent.Down p) none = go (p == port) none
          where
            go : (b : Bool) → (if b then n ∷ [] else []) ++ downs_at port (numbered n es) ≡ [] → downs_at port (numbered n es) ≡ []
            go true none = absurd (cc)
            go false none = none

        still : (e : SwitchEvent P) → down_number port e 0 ≡ 0 ∷ [] → down_number port e n ++ downs_at port (numbered n es) ≡ [] → ⊥
        still (SwitchEvent.Arrive p packet) d none = cc
        still (SwitchEvent.Begun p) d none = cc
        still (SwitchEvent.Down p) d none = go (p == port) d none
          where
            go : (b : Bool) → one_if b 0 ≡ 0 ∷ [] → (if b then n ∷ [] else []) ++ downs_at port (numbered n es) ≡ [] → ⊥
            go true d none = cc
            go false d none = cc

    last_downs : (n : ℕ) (ps : List ℕ) (rest : List (Numbered P)) → DownLast port rest → (is_among port ps ≡ true → begun_at port rest ≡ []) → DownLast port (numbered n (down_events ps) ++ rest)
    last_downs n [] rest last none = last
    last_downs n (p ∷ ps) rest last none = (
      λ d. begun-append (numbered n (down_events ps)) rest ∙ ap (λ l. l ++ begun_at port rest) (begun_downs n ps) ∙ none (ap (λ b. if b then true else is_among port ps) (is (p == port) d)),
      last_downs n ps rest last (λ e. none (more (p == port) e)),
    )
      where
        is : (b : Bool) → one_if b 0 ≡ 0 ∷ [] → b ≡ true
        is true d = refl
        is false d = absurd (cc)

        more : (b : Bool) → is_among port ps ≡ true → (if b then true else is_among port ps) ≡ true
        more true e = refl
        more false e = e

    last_all : (n : ℕ) (down : List ℕ) (w : W) (ts : List (Turn P)) → MayTurns x down w ts → DownLast port (all_events n ts)
    last_all n down w [] may = tt
    last_all n down w (t ∷ ts) may =
        let rest = all_events (suc n) ts in
        let none = λ (e : is_among port t.downs ≡ true). begun_all (suc n) ts ∙ none_over (suc n) (downed down t.downs) _ ts may.1 (down_more down t.downs e) in
        let downs = last_downs (suc n) t.downs rest (last_all (suc n) (downed down t.downs) _ ts may.1) none in
        let behind = subst (DownLast port) (sym (ap (λ l. l ++ rest) (numbered-append (suc n) (brought_events t.brought) (down_events t.downs)) ∙ append_assoc (numbered (suc n) (brought_events t.brought)) (numbered (suc n) (down_events t.downs)) rest))
        (calm (suc n) (brought_events t.brought) (numbered (suc n) (down_events t.downs) ++ rest) (ap (λ l. downs_at port (numbered (suc n) l)) (sym (append-nil (brought_events t.brought))) ∙ downs_brought (suc n) t.brought []) downs) in
        subst (DownLast port) (sym (append_assoc (numbered n (before_events t)) (numbered (suc n) (behind_events t)) rest))
        (calm n (before_events t) (numbered (suc n) (behind_events t) ++ rest) (downs_before n t) behind)

    pub is_port : (w : W) (ts : List (Turn P)) → MayTurns x [] w ts → (port == 0) ≡ false → IsPort (all_events 0 ts) port (forwards_of port 0 ts) (brought_of port 0 ts) (given_up_of port 0 ts)
    is_port w ts may slave = record { begun = begun_all 0 ts; arrived = arrived_all slave 0 ts; down = downs_all 0 [] w ts may refl; last = last_all 0 [] w ts may }
