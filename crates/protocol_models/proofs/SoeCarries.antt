-- A server that takes the fragments of a write: nothing happens before the last, and the last one writes the element.
use Rattle.std.proofs.Common.{◌≡◌, ℕ, zero, suc, ◌+◌, ◌-◌, ◌<◌, ◌≤◌, Bool, true, false, List, [], ◌∷◌, ◌++◌, length, take, drop, Option, None, Some, Result, Ok, Err, refl, ap, ◌∙◌, subst, arith, append-nil, inl, inr, le-leb, length-drop, length-append, eq-eqb}
use Rattle.std.proofs.lemmas.Bool.{cases_lt, lt-leb}
use Rattle.std.proofs.lemmas.List.{take_all, take-append-drop, append_assoc, length-take-le}
use Rattle.exchange_model.specs.Exchange.{after, given}
use Rattle.protocol_models.specs.Elements.{Target, Elements}
use Rattle.protocol_models.specs.SoeMails.{SoeMail, mail, message, refusal, parts_of, fragments}
use Rattle.protocol_models.specs.SoeServer.{Join, ahead, gathered, written, silent, behind, Server, serve}

-- what a write leaves of the table, and its answer
abbrev pub left_by : {S : Type 0} → S → Result S ℕ → S
left_by app (Ok changed) = changed
left_by app (Err code) = app

abbrev pub answer_to : {S : Type 0} → Target → Result S ℕ → List SoeMail
answer_to t (Ok changed) = mail (message 4 false t t.idn []) ∷ []
answer_to t (Err code) = mail (refusal 4 t code) ∷ []

module _ {S : Type 0} (o : Elements S) (room : ℕ) where
  -- mails without effect
  pub record Idle (v : Server S) (ms : List SoeMail) : Type 0 where
    pub app : (after (serve o room) v ms).app ≡ v.app
    pub handled : (after (serve o room) v ms).handled ≡ v.handled
    pub given : given (serve o room) v ms ≡ []

  -- mails that carry out one service, all of them and no fewer: the table behind them, and what the server gives; no join is left
  pub record Carried (v : Server S) (ms : List SoeMail) (left : S) (gives : List SoeMail) : Type 0 where
    pub app : (after (serve o room) v ms).app ≡ left
    pub handled : (after (serve o room) v ms).handled ≡ suc v.handled
    pub join : (after (serve o room) v ms).join ≡ None
    pub given : given (serve o room) v ms ≡ gives
    pub late : (p : List SoeMail) (h : SoeMail) (r : List SoeMail) → ms ≡ p ++ h ∷ r → Idle v p

  pub idle_none : (v : Server S) → Idle v []
  idle_none v = record { app = refl; handled = refl; given = refl }

  -- one mail that carries out a service
  pub carried_one : (v w : Server S) (m : SoeMail) (gives : List SoeMail) → serve o room v m ≡ (w, gives) → w.handled ≡ suc v.handled → w.join ≡ None →
      Carried v (m ∷ []) w.app gives
  carried_one v w m gives one counts none = record {
    app = ap (λ y. y.0.app) one;
    handled = ap (λ y. y.0.handled) one ∙ counts;
    join = ap (λ y. y.0.join) one ∙ none;
    given = ap (λ y. y.1 ++ []) one ∙ append-nil gives;
    late = early;
  }
    where
      early : (p : List SoeMail) (h : SoeMail) (r : List SoeMail) → m ∷ [] ≡ p ++ h ∷ r → Idle v p
      early [] h r e = idle_none v
      early (k ∷ []) h r e = absurd (cc)
      early (k ∷ l ∷ p) h r e = absurd (cc)

  pub idle_more : (v w : Server S) (m : SoeMail) (p : List SoeMail) → serve o room v m ≡ (w, []) → w.app ≡ v.app → w.handled ≡ v.handled → Idle w p → Idle v (m ∷ p)
  idle_more v w m p one same count rest = record {
    app = ap (λ y. (after (serve o room) y.0 p).app) one ∙ rest.app ∙ same;
    handled = ap (λ y. (after (serve o room) y.0 p).handled) one ∙ rest.handled ∙ count;
    given = ap (λ y. y.1 ++ given (serve o room) y.0 p) one ∙ rest.given;
  }

  pub early_more : (v w : Server S) (m : SoeMail) (ms : List SoeMail) → serve o room v m ≡ (w, []) → w.app ≡ v.app → w.handled ≡ v.handled →
      ((p : List SoeMail) (h : SoeMail) (r : List SoeMail) → ms ≡ p ++ h ∷ r → Idle w p) → (p : List SoeMail) (h : SoeMail) (r : List SoeMail) → m ∷ ms ≡ p ++ h ∷ r → Idle v p
  early_more v w m ms one same count late [] h r e = idle_none v
  early_more v w m ms one same count late (k ∷ p) h r e =
      let first : m ≡ k = cc in
      let rest : ms ≡ p ++ h ∷ r = cc in
      subst (λ k. Idle v (k ∷ p)) first (idle_more v w m p one same count (late p h r rest))

  pub carried_more : (v w : Server S) (m : SoeMail) (ms : List SoeMail) (left : S) (gives : List SoeMail) → serve o room v m ≡ (w, []) →
      w.app ≡ v.app → w.handled ≡ v.handled → Carried w ms left gives → Carried v (m ∷ ms) left gives
  carried_more v w m ms left gives one same count rest = record {
    app = ap (λ y. (after (serve o room) y.0 ms).app) one ∙ rest.app;
    handled = ap (λ y. (after (serve o room) y.0 ms).handled) one ∙ rest.handled ∙ ap suc count;
    join = ap (λ y. (after (serve o room) y.0 ms).join) one ∙ rest.join;
    given = ap (λ y. y.1 ++ given (serve o room) y.0 ms) one ∙ rest.given;
    late = early_more v w m ms one same count rest.late;
  }

  -- these octets of a write came so far
  abbrev pub Came : Option Join → Target → List ℕ → Type 0
  Came join t got = (incomplete : Bool) (field : ℕ) (bytes : List ℕ) → ahead join (message 3 incomplete t field bytes) ≡ got

  pub came_none : (t : Target) → Came None t []
  came_none t incomplete field bytes = refl

  pub came_more : (t : Target) (got : List ℕ) → Came (Some (record { opcode = 3; drive = t.drive; elements = t.elements; octets = got })) t got
  came_more t got incomplete field bytes =
      let drive = eq-eqb t.drive t.drive refl in
      let flags = eq-eqb t.elements t.elements refl in
      rw (drive, flags) refl

  -- the last fragment writes what came, whatever that comes to
  pub last_written : (v : Server S) (t : Target) (got bytes : List ℕ) (r : Result S ℕ) → gathered v.join (message 3 false t t.idn bytes) ≡ got ++ bytes → o.write v.app t (got ++ bytes) ≡ r →
      Carried v (mail (message 3 false t t.idn bytes) ∷ []) (left_by v.app r) (answer_to t r)
  last_written v t got bytes (Ok changed) all is =
      carried_one v (record { app = changed; handled = suc v.handled; join = None }) _ _ (ap (λ l. behind v.handled (written v.app t (o.write v.app t l))) all ∙ ap (λ r. behind v.handled (written v.app t r)) is) refl refl
  last_written v t got bytes (Err code) all is =
      carried_one v (record { app = v.app; handled = suc v.handled; join = None }) _ _ (ap (λ l. behind v.handled (written v.app t (o.write v.app t l))) all ∙ ap (λ r. behind v.handled (written v.app t r)) is) refl refl

  kept_whole : (join : Option Join) (t : Target) (got : List ℕ) (incomplete : Bool) (field : ℕ) (bytes : List ℕ) → Came join t got → length got + length bytes ≤ 16384 →
      gathered join (message 3 incomplete t field bytes) ≡ got ++ bytes
  kept_whole join t got incomplete field bytes came fits =
      ap (λ l. take 16384 (l ++ bytes)) (came incomplete field bytes) ∙ take_all 16384 (got ++ bytes) (omega (arith, length-append got bytes))

  -- the server behind a fragment of a write
  abbrev pub waiting : Server S → Target → List ℕ → Server S
  waiting v t got = record v { join = Some (record { opcode = 3; drive = t.drive; elements = t.elements; octets = got }) }

  -- ALL FRAGMENTS OF A WRITE CARRY IT OUT
  pub writes : (fuel part : ℕ) (v : Server S) (t : Target) (got bytes : List ℕ) → 0 < part → length bytes < fuel → length got + length bytes ≤ 16384 → Came v.join t got →
      Carried v (fragments fuel 3 t part bytes) (left_by v.app (o.write v.app t (got ++ bytes))) (answer_to t (o.write v.app t (got ++ bytes)))
  writes zero part v t got bytes some few fits came = absurd (omega (arith, few))
  writes (suc fuel) part v t got bytes some few fits came = elim (cases_lt part (length bytes)) [
    | inr ends ↦ rw (le-leb (length bytes) part ends) (last_written v t got bytes (o.write v.app t (got ++ bytes)) (kept_whole v.join t got false t.idn bytes came fits) refl)
    | inl more ↦
        let front = take part bytes in
        let back = drop part bytes in
        let front_is : length front ≡ part = length-take-le part bytes (omega (arith, more)) in
        let back_is : length back ≡ length bytes - part = length-drop part bytes in
        let both : (got ++ front) ++ back ≡ got ++ bytes = append_assoc got front back ∙ ap (λ l. got ++ l) (take-append-drop part bytes) in
        let field = parts_of part (length bytes - part) in
        let here : serve o room v (mail (message 3 true t field front)) ≡ (waiting v t (got ++ front), []) =
        ap (λ l. behind v.handled (silent v.app (Some (record { opcode = 3; drive = t.drive; elements = t.elements; octets = l }))))
        (kept_whole v.join t got true field front came (omega (arith, front_is, more, fits))) in
        let rest = writes fuel part (waiting v t (got ++ front)) t (got ++ front) back some (omega (arith, back_is, some, more, few))
        (omega (arith, back_is, front_is, length-append got front, more, fits)) (came_more t (got ++ front)) in
        rw (lt-leb (length bytes) part more) (carried_more v (waiting v t (got ++ front)) (mail (message 3 true t field front)) (fragments fuel 3 t part back) _ _ here refl refl
        (subst (λ l. Carried (waiting v t (got ++ front)) (fragments fuel 3 t part back) (left_by v.app (o.write v.app t l)) (answer_to t (o.write v.app t l))) both rest))
  ]
