-- The numbers of events, the host's packets, and that nothing waits where another row begins.
use Rattle.std.proofs.Common.{◌≡◌, inl, inr, ℕ, suc, ◌<◌, ◌≤◌, ◌==◌, Bool, true, false, Option, Some, None, List, [], ◌∷◌, ◌++◌, map, refl, ap, ap₂, sym, ◌∙◌, subst, arith, append_assoc, append-nil, if◌then◌else◌, eqb-true}
use Rattle.std.specs.Prelude.{⊤, nat_le}
use Rattle.std.proofs.lemmas.Bool.Decides.{leb_tells}
use Rattle.packets_heard.specs.Events.{SwitchEvent, Numbered, NotFalling, HostWaits, arrived_number}
use Rattle.packets_heard.specs.Turns.{Switch, IsSwitch, Begin, Turn, host_events, begin_events, begins_events, brought_events, down_events, numbered, before_events, behind_events, turn_events, all_events, folded, MayEnter, MayBegin, MayBegins, FromSlaves, MayTurns, downed, other_frame, others_in, others_of, entered, all_entered, arrived_packet, packets_from, events_up_to, NoneWaits}

-- THE NUMBERS DON'T FALL
lower : {P : Type 0} (low n : ℕ) (es : List (Numbered P)) → low ≤ n → NotFalling n es → NotFalling low es
lower low n [] le f = tt
lower low n (e ∷ es) le f = (let next = f.0 in omega (arith, le, next), f.1)

stays : {P : Type 0} (low n : ℕ) (es : List (SwitchEvent P)) (rest : List (Numbered P)) → low ≤ n → NotFalling n rest → NotFalling low (numbered n es ++ rest)
stays low n [] rest le f = lower low n rest le f
stays low n (e ∷ es) rest le f = (le, stays n n es rest (omega arith) f)

-- what a turn is, with all that follows
turn-append : {P : Type 0} (n : ℕ) (t : Turn P) (rest : List (Numbered P)) → turn_events n t ++ rest ≡ numbered n (before_events t) ++ (numbered (suc n) (behind_events t) ++ rest)
turn-append n t rest = append_assoc (numbered n (before_events t)) (numbered (suc n) (behind_events t)) rest

pub not_falling : {P : Type 0} (n : ℕ) (ts : List (Turn P)) → NotFalling n (all_events n ts)
not_falling n [] = tt
not_falling n (t ∷ ts) =
    subst (NotFalling n) (sym (turn-append n t (all_events (suc n) ts)))
    (stays n n (before_events t) (numbered (suc n) (behind_events t) ++ all_events (suc n) ts) (omega arith)
    (stays n (suc n) (behind_events t) (all_events (suc n) ts) (omega arith) (not_falling (suc n) ts)))

module _ {W P : Type 0} (x : Switch W P) where
  folded-append : (w : W) (xs ys : List (SwitchEvent P)) → folded x w (xs ++ ys) ≡ folded x (folded x w xs) ys
  folded-append w [] ys = refl
  folded-append w (e ∷ xs) ys = folded-append (x.behind w e) xs ys

  -- THE HOST'S PACKETS enter where nothing waits
  abbrev HostFree : List (SwitchEvent P) → Type 0
  HostFree [] = ⊤
  HostFree (e ∷ es) = (arrived_number 0 e 0 ≡ []) × HostFree es

  begins_free : (bs : List (ℕ × Begin)) → HostFree (begins_events bs)
  begins_free [] = tt
  begins_free (b ∷ bs) = go b.1 (begins_free bs)
    where
      go : (k : Begin) → HostFree (begins_events bs) → HostFree (begin_events b.0 k ++ begins_events bs)
      go Begin.Forward h = (refl, h)
      go Begin.Other h = h

  behind_free : (more : List (ℕ × P)) (ps : List ℕ) → FromSlaves more → HostFree (brought_events more ++ down_events ps)
  behind_free [] [] from = tt
  behind_free [] (p ∷ ps) from = (refl, behind_free [] ps from)
  behind_free (a ∷ more) ps from = (ap (λ b. if b then 0 ∷ [] else []) from.0, behind_free more ps from.1)

  host_free : (f : List (SwitchEvent P) → Bool) (n : ℕ) (before es : List (SwitchEvent P)) (rest : List (Numbered P)) → HostFree es → HostWaits f (before ++ es) rest → HostWaits f before (numbered n es ++ rest)
  host_free f n before [] rest free h = subst (λ l. HostWaits f l rest) (append-nil before) h
  host_free f n before (e ∷ es) rest free h = (
    λ is. absurd (let nothing = free.0 in cc),
    host_free f n (before ++ e ∷ []) es rest free.1 (subst (λ l. HostWaits f l rest) (sym (append_assoc before (e ∷ []) es)) h),
  )

  module _ (start : W) where
    abbrev any_behind : List (SwitchEvent P) → Bool
    any_behind es = x.any (folded x start es)

    hosts : (n : ℕ) (down : List ℕ) (before : List (SwitchEvent P)) (w : W) (ts : List (Turn P)) → folded x start before ≡ w → MayTurns x down w ts → HostWaits any_behind before (all_events n ts)
    hosts n down before w [] e may = tt
    hosts n down before w (t ∷ ts) e may =
        let rest = all_events (suc n) ts in
        let later = hosts (suc n) (downed down t.downs) ((before ++ before_events t) ++ behind_events t) (folded x (folded x w (before_events t)) (behind_events t)) ts
        (folded-append start (before ++ before_events t) (behind_events t) ∙ ap (λ v. folded x v (behind_events t)) (folded-append start before (before_events t) ∙ ap (λ v. folded x v (before_events t)) e)) may.1 in
        let behind = host_free any_behind (suc n) (before ++ before_events t) (behind_events t) rest (behind_free t.brought t.downs may.0.brought) later in
        subst (HostWaits any_behind before) (sym (turn-append n t rest)) (enters t.host may.0.enters behind)
      where
        enters : (h : Option P) → MayEnter x w h → HostWaits any_behind (before ++ (host_events h ++ begins_events t.begins)) (numbered (suc n) (behind_events t) ++ all_events (suc n) ts) →
            HostWaits any_behind before (numbered n (host_events h ++ begins_events t.begins) ++ (numbered (suc n) (behind_events t) ++ all_events (suc n) ts))
        enters None may h = host_free any_behind n before (begins_events t.begins) (numbered (suc n) (behind_events t) ++ all_events (suc n) ts) (begins_free t.begins) h
        enters (Some p) may h = (
          λ is. ap x.any e ∙ may,
          host_free any_behind n (before ++ SwitchEvent.Arrive 0 p ∷ []) (begins_events t.begins) (numbered (suc n) (behind_events t) ++ all_events (suc n) ts) (begins_free t.begins)
              (subst (λ l. HostWaits any_behind l (numbered (suc n) (behind_events t) ++ all_events (suc n) ts)) (sym (append_assoc before (SwitchEvent.Arrive 0 p ∷ []) (begins_events t.begins))) h),
        )

  packets-append : (xs ys : List (Numbered P)) → packets_from 0 (xs ++ ys) ≡ packets_from 0 xs ++ packets_from 0 ys
  packets-append [] ys = refl
  packets-append (e ∷ xs) ys = ap (λ l. arrived_packet 0 e.event ++ l) (packets-append xs ys) ∙ sym (append_assoc (arrived_packet 0 e.event) (packets_from 0 xs) (packets_from 0 ys))

  packets_before : (n : ℕ) (t : Turn P) → packets_from 0 (numbered n (before_events t)) ≡ entered t.host
  packets_before n t = host t.host
    where
      begins : (bs : List (ℕ × Begin)) → packets_from 0 (numbered {P = P} n (begins_events bs)) ≡ []
      begins [] = refl
      begins (b ∷ bs) = go b.1 (begins bs)
        where
          go : (k : Begin) → packets_from 0 (numbered {P = P} n (begins_events bs)) ≡ [] → packets_from 0 (numbered {P = P} n (begin_events b.0 k ++ begins_events bs)) ≡ []
          go Begin.Forward e = e
          go Begin.Other e = e

      host : (h : Option P) → packets_from 0 (numbered n (host_events h ++ begins_events t.begins)) ≡ entered h
      host None = begins t.begins
      host (Some p) = ap (λ l. p ∷ l) (begins t.begins)

  packets_behind : (n : ℕ) (more : List (ℕ × P)) (ps : List ℕ) → FromSlaves more → packets_from 0 (numbered n (brought_events more ++ down_events ps)) ≡ []
  packets_behind n [] [] from = refl
  packets_behind n [] (p ∷ ps) from = packets_behind n [] ps from
  packets_behind n (a ∷ more) ps from = ap₂ (λ (b : Bool) (l : List P). (if b then a.1 ∷ [] else []) ++ l) from.0 (packets_behind n more ps from.1)

  pub host_packets : (n : ℕ) (down : List ℕ) (w : W) (ts : List (Turn P)) → MayTurns x down w ts → packets_from 0 (all_events n ts) ≡ all_entered ts
  host_packets n down w [] may = refl
  host_packets n down w (t ∷ ts) may =
      packets-append (turn_events n t) (all_events (suc n) ts)
      ∙ ap₂ (λ (a b : List P). a ++ b)
      (packets-append (numbered n (before_events t)) (numbered (suc n) (behind_events t)) ∙ ap₂ (λ (a b : List P). a ++ b) (packets_before n t) (packets_behind (suc n) t.brought t.downs may.0.brought) ∙ append-nil (entered t.host))
      (host_packets (suc n) (downed down t.downs) _ ts may.1)

  pub host_waits : (w : W) (ts : List (Turn P)) → MayTurns x [] w ts → HostWaits (λ es. x.any (folded x w es)) [] (all_events 0 ts)
  host_waits w ts may = hosts w 0 [] [] w ts refl may

  -- NOTHING WAITS AT A PORT where a row that is no packet begins
  module _ (is : IsSwitch x) (start : W) (port : ℕ) where
    still_none : (w : W) (bs : List (ℕ × Begin)) → x.waits w port ≡ false → x.waits (folded x w (begins_events bs)) port ≡ false
    still_none w [] e = e
    still_none w (b ∷ bs) e = go b.1 (λ v f. still_none v bs f)
      where
        go : (k : Begin) → ((v : W) → x.waits v port ≡ false → x.waits (folded x v (begins_events bs)) port ≡ false) → x.waits (folded x w (begin_events b.0 k ++ begins_events bs)) port ≡ false
        go Begin.Forward rest = rest (x.behind w (SwitchEvent.Begun b.0)) (is.taken w port b.0 e)
        go Begin.Other rest = rest w e

    none_append : (es : List (Numbered P)) (fs gs : List ℕ) → NoneWaits x start port es fs → NoneWaits x start port es gs → NoneWaits x start port es (fs ++ gs)
    none_append es [] gs a b = b
    none_append es (f ∷ fs) gs a b = (a.0, none_append es fs gs a.1 b)

    -- in one turn, whose frame has this number
    none_in : (n : ℕ) (down : List ℕ) (es : List (Numbered P)) (w : W) (bs : List (ℕ × Begin)) → folded x start (events_up_to n es) ≡ folded x w (begins_events bs) → MayBegins x down w bs → NoneWaits x start port es (others_in port n bs)
    none_in n down es w [] e may = tt
    none_in n down es w (b ∷ bs) e may = go b.1 (b.0 == port) refl e may.1 (λ v f m. none_in n down es v bs f m) may.2
      where
        go : (k : Begin) (c : Bool) → (b.0 == port) ≡ c → folded x start (events_up_to n es) ≡ folded x w (begin_events b.0 k ++ begins_events bs) → MayBegin x w b.0 k →
            ((v : W) → folded x start (events_up_to n es) ≡ folded x v (begins_events bs) → MayBegins x down v bs → NoneWaits x start port es (others_in port n bs)) →
            MayBegins x down (folded x w (begin_events b.0 k)) bs → NoneWaits x start port es (other_frame port n b.0 k ++ others_in port n bs)
        go Begin.Forward c p e may rest m = rest (x.behind w (SwitchEvent.Begun b.0)) e m
        go Begin.Other true p e may rest m =
            let none : x.waits w port ≡ false = ap (λ q. x.waits w q) (sym (eqb-true b.0 port p)) ∙ may in
            subst (λ c. NoneWaits x start port es ((if c then n ∷ [] else []) ++ others_in port n bs)) (sym p) (ap (λ v. x.waits v port) e ∙ still_none w bs none, rest w e m)
        go Begin.Other false p e may rest m = subst (λ c. NoneWaits x start port es ((if c then n ∷ [] else []) ++ others_in port n bs)) (sym p) (rest w e m)

    -- all events so far are numbered up to this frame
    abbrev UpTo : ℕ → List (Numbered P) → Type 0
    UpTo n [] = ⊤
    UpTo n (e ∷ es) = (e.number ≤ n) × UpTo n es

    up_append : (n : ℕ) (xs ys : List (Numbered P)) → UpTo n xs → UpTo n ys → UpTo n (xs ++ ys)
    up_append n [] ys a b = b
    up_append n (e ∷ xs) ys a b = (a.0, up_append n xs ys a.1 b)

    up_more : (n m : ℕ) (xs : List (Numbered P)) → n ≤ m → UpTo n xs → UpTo m xs
    up_more n m [] le a = tt
    up_more n m (e ∷ xs) le a = (let here = a.0 in omega (arith, here, le), up_more n m xs le a.1)

    up_numbered : (n m : ℕ) (es : List (SwitchEvent P)) → n ≤ m → UpTo m (numbered n es)
    up_numbered n m [] le = tt
    up_numbered n m (e ∷ es) le = (le, up_numbered n m es le)

    below : (k n : ℕ) → k ≤ n → nat_le k n ≡ true
    below k n le = elim (leb_tells k n) [ inl c ↦ c.0 | inr c ↦ absurd (let more = c.1 in omega (arith, le, more)) ]

    above : (k n : ℕ) → n < k → nat_le k n ≡ false
    above k n less = elim (leb_tells k n) [ inl c ↦ absurd (let le = c.1 in omega (arith, less, le)) | inr c ↦ c.0 ]

    up_to : (n : ℕ) (xs rest : List (Numbered P)) → UpTo n xs → events_up_to n (xs ++ rest) ≡ map (λ e. e.event) xs ++ events_up_to n rest
    up_to n [] rest a = refl
    up_to n (e ∷ xs) rest a = ap (λ b. if b then e.event ∷ events_up_to n (xs ++ rest) else []) (below e.number n a.0) ∙ ap (λ l. e.event ∷ l) (up_to n xs rest a.1)

    none_up : (n : ℕ) (es : List (Numbered P)) → NotFalling (suc n) es → events_up_to n es ≡ []
    none_up n [] f = refl
    none_up n (e ∷ es) f = ap (λ b. if b then e.event ∷ events_up_to n es else []) (above e.number n (let first = f.0 in omega (arith, first)))

    events-numbered : (n : ℕ) (es : List (SwitchEvent P)) → map (λ (e : Numbered P). e.event) (numbered n es) ≡ es
    events-numbered n [] = refl
    events-numbered n (e ∷ es) = ap (λ l. e ∷ l) (events-numbered n es)

    events-append : (xs ys : List (Numbered P)) → map (λ (e : Numbered P). e.event) (xs ++ ys) ≡ map (λ (e : Numbered P). e.event) xs ++ map (λ (e : Numbered P). e.event) ys
    events-append [] ys = refl
    events-append (e ∷ xs) ys = ap (λ l. e.event ∷ l) (events-append xs ys)

    -- the switch behind what came before the frame, and behind the turn
    before_is : (n : ℕ) (done : List (Numbered P)) (t : Turn P) (rest : List (Numbered P)) (w : W) → folded x start (map (λ e. e.event) done) ≡ w → UpTo n done → NotFalling (suc n) rest →
        folded x start (events_up_to n (done ++ (turn_events n t ++ rest))) ≡ folded x w (before_events t)
    before_is n done t rest w e up later =
        let behind = numbered (suc n) (behind_events t) ++ rest in
        let none : events_up_to n behind ≡ [] = none_up n behind (stays (suc n) (suc n) (behind_events t) rest (omega arith) later) in
        ap (λ l. folded x start (events_up_to n (done ++ l))) (turn-append n t rest)
        ∙ ap (folded x start) (up_to n done (numbered n (before_events t) ++ behind) up
        ∙ ap (λ l. map (λ e. e.event) done ++ l) (up_to n (numbered n (before_events t)) behind (up_numbered n n (before_events t) (omega arith))
        ∙ ap₂ (λ (a b : List (SwitchEvent P)). a ++ b) (events-numbered n (before_events t)) none ∙ append-nil (before_events t)))
        ∙ folded-append start (map (λ e. e.event) done) (before_events t) ∙ ap (λ v. folded x v (before_events t)) e

    turn_is : (n : ℕ) (done : List (Numbered P)) (t : Turn P) (w : W) → folded x start (map (λ e. e.event) done) ≡ w →
        folded x start (map (λ e. e.event) (done ++ turn_events n t)) ≡ folded x (folded x w (before_events t)) (behind_events t)
    turn_is n done t w e =
        ap (folded x start) (events-append done (turn_events n t) ∙ ap (λ l. map (λ e. e.event) done ++ l) (events-append (numbered n (before_events t)) (numbered (suc n) (behind_events t))
        ∙ ap₂ (λ (a b : List (SwitchEvent P)). a ++ b) (events-numbered n (before_events t)) (events-numbered (suc n) (behind_events t))))
        ∙ folded-append start (map (λ e. e.event) done) (before_events t ++ behind_events t)
        ∙ ap (λ v. folded x v (before_events t ++ behind_events t)) e
        ∙ folded-append w (before_events t) (behind_events t)

    none_all : (n : ℕ) (done : List (Numbered P)) (down : List ℕ) (w : W) (ts : List (Turn P)) → folded x start (map (λ e. e.event) done) ≡ w → UpTo n done → MayTurns x down w ts → NoneWaits x start port (done ++ all_events n ts) (others_of port n ts)
    none_all n done down w [] e up may = tt
    none_all n done down w (t ∷ ts) e up may =
        let rest = all_events (suc n) ts in
        let all = done ++ (turn_events n t ++ rest) in
        none_append all (others_in port n t.begins) (others_of port (suc n) ts)
        (none_in n down all (folded x w (host_events t.host)) t.begins
        (before_is n done t rest w e up (not_falling (suc n) ts) ∙ folded-append w (host_events t.host) (begins_events t.begins)) may.0.begins)
        (subst (λ l. NoneWaits x start port l (others_of port (suc n) ts)) (append_assoc done (turn_events n t) rest)
        (none_all (suc n) (done ++ turn_events n t) (downed down t.downs) (folded x (folded x w (before_events t)) (behind_events t)) ts (turn_is n done t w e)
        (up_append (suc n) done (turn_events n t) (up_more n (suc n) done (omega arith) up)
        (up_append (suc n) (numbered n (before_events t)) (numbered (suc n) (behind_events t)) (up_numbered n (suc n) (before_events t) (omega arith)) (up_numbered (suc n) (suc n) (behind_events t) (omega arith))))
        may.1))

    pub none_waits : (ts : List (Turn P)) → MayTurns x [] start ts → NoneWaits x start port (all_events 0 ts) (others_of port 0 ts)
    none_waits ts may = none_all 0 [] [] start ts refl tt may
