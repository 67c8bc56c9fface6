-- What each event keeps, and what follows for the AL state, the error flag and the answers.
use Rattle.std.proofs.Common.{◌≡◌, ◌⊎◌, inl, inr, ℕ, ◌==◌, Bool, true, false, Option, Some, None, List, [], ◌∷◌, ◌++◌, refl, ap, sym, ◌∙◌, subst, append-nil, append_assoc, if◌then◌else◌, eqb-true}
use Rattle.segment_model.specs.of_link_model.Link.{Fate, is_met}
use Rattle.segment_model.specs.Slaves.{Registers}
use Rattle.segment_model.specs.Record.{News}
use Rattle.segment_model.specs.Ends.{Outcome, state_ends}
use Rattle.state_model.specs.States.{Table, Phase, Hand, Closed, States, Event, Turn, happens, run, begins, writes, looks, returned, turned, shown, reads, word_of, word_met, phase_behind, new_states}
use Rattle.state_model.specs.Promises.{IsTable, AllTold, Stands, Flagged, Pending, StatesPromised, state_behind, state_closed, reached, answer_of}
use Rattle.state_model.proofs.Words.{Idle, Flag, Cleared, InHand, Kept, kept_step}

-- the code that was read in this phase
abbrev pub code_read : Phase → Option ℕ
code_read Phase.Ask = None
code_read Phase.Await = None
code_read (Phase.Acknowledge state first) = Some first
code_read (Phase.Recover first) = Some first

-- the statuses read so far leave the service open, with the code that its phase has
abbrev pub Reads : {M : Type 0} → Type 0 → Option (Hand M) → Type 0
Reads R None = Unit {0}
Reads {M} R (Some h) = (more : List (News M)) → state_ends {R = R} h.target None (h.read ++ more) ≡ state_ends h.target (code_read h.phase) more

told_push : {M R : Type 0} (table : Table) (from : ℕ) (cs : List (Closed M R)) (c : Closed M R) → AllTold table from cs →
    c.answer ≡ answer_of (table (state_closed table from cs) c.target) → state_ends c.target None c.read ≡ Some c.answer → AllTold table from (cs ++ c ∷ [])
told_push table from [] c all answer read = (answer, read, tt)
told_push table from (d ∷ cs) c all answer read = (all.0, all.1, told_push table (state_behind table from d.target) cs c all.2 answer read)

pub closed_push : {M R : Type 0} (table : Table) (from : ℕ) (cs : List (Closed M R)) (c : Closed M R) → state_closed table from (cs ++ c ∷ []) ≡ state_behind table (state_closed table from cs) c.target
closed_push table from [] c = refl
closed_push table from (d ∷ cs) c = closed_push table (state_behind table from d.target) cs c

module _ (table : Table) (stays : (from to : ℕ) → table from to ≡ None → table to to ≡ None) (start : ℕ) where
  pub record Holds {M R : Type 0} (closed : List (Closed M R)) (hand : Option (Hand M)) (r : Registers) : Type 0 where
    pub told : AllTold table start closed
    pub sits : (let s = state_closed table start closed in table s s) ≡ None
    pub kept : Kept table (state_closed table start closed) hand r
    pub reads : Reads R hand

  abbrev pub HoldsAt : {M R : Type 0} → States M R → Type 0
  HoldsAt w = Holds w.closed w.hand w.registers

  begins_holds : {M R : Type 0} (w : States M R) (hand : Option (Hand M)) (target : ℕ) → w.hand ≡ hand → HoldsAt w → HoldsAt (begins w hand target)
  begins_holds w (Some h) target e k = k
  begins_holds w None target e k =
      let idle = subst (λ h. Kept table (state_closed table start w.closed) h w.registers) e k.kept in
      record { told = k.told; sits = k.sits; kept = inl (record { state = idle.state; refused = idle.refused; word = λ c f. inl (idle.word c f) }); reads = λ more. refl }

  -- the word that a service writes, in each phase
  met : (s t : ℕ) (phase : Phase) (r : Registers) → InHand table s t phase r → InHand table s t phase (word_met r (word_of t phase))
  met s t Phase.Ask r (inl k) = inl (record { state = k.state; refused = k.refused; word = λ c f. inr (let g : Some (t, false) ≡ Some c = f in cc) })
  met s t Phase.Ask r (inr (inl k)) = inr (inl (record { made = k.made; state = k.state; refused = k.refused; word = λ c f. let g : Some (t, false) ≡ Some c = f in cc }))
  met s t Phase.Ask r (inr (inr k)) = inr (inr (record {
    code = k.code;
    denied = k.denied;
    state = k.state;
    refused = k.refused;
    word = λ c f. let g : Some (t, false) ≡ Some c = f in cc;
    asks = λ c f. let g : Some (t, false) ≡ Some c = f in cc;
  }))
  met s t Phase.Await r k = k
  met s t (Phase.Acknowledge state first) r (e, inl k) = (
    e,
    inl (record {
      denied = k.denied;
      state = k.state;
      refused = k.refused;
      word = λ c f. inr (let g : Some (state, true) ≡ Some c = f in cc);
      asks = λ c f. inl (let g : Some (state, true) ≡ Some c = f in cc);
    }),
  )
  met s t (Phase.Acknowledge state first) r (e, inr k) = (e, inr (record { denied = k.denied; state = k.state; refused = k.refused; word = λ c f. let g : Some (state, true) ≡ Some c = f in cc }))
  met s t (Phase.Recover first) r k = k

  met_or_not : (s t : ℕ) (b : Bool) (phase : Phase) (r : Registers) → InHand table s t phase r → InHand table s t phase (if b then word_met r (word_of t phase) else r)
  met_or_not s t true phase r k = met s t phase r k
  met_or_not s t false phase r k = k

  further : (s t : ℕ) (phase : Phase) (fate : Fate) (r : Registers) → InHand table s t phase r → InHand table s t (phase_behind phase fate) r
  further s t Phase.Ask Fate.Pass r k = k
  further s t Phase.Await Fate.Pass r k = k
  further s t (Phase.Acknowledge state first) Fate.Pass r k = k.1
  further s t (Phase.Recover first) Fate.Pass r k = k
  further s t phase Fate.LostBefore r k = k
  further s t phase Fate.LostBehind r k = k

  code_behind : (phase : Phase) (fate : Fate) → code_read (phase_behind phase fate) ≡ code_read phase
  code_behind Phase.Ask Fate.Pass = refl
  code_behind Phase.Await Fate.Pass = refl
  code_behind (Phase.Acknowledge state first) Fate.Pass = refl
  code_behind (Phase.Recover first) Fate.Pass = refl
  code_behind phase Fate.LostBefore = refl
  code_behind phase Fate.LostBehind = refl

  writes_holds : {M R : Type 0} (w : States M R) (hand : Option (Hand M)) (fate : Fate) → w.hand ≡ hand → HoldsAt w → HoldsAt (writes w hand fate)
  writes_holds w None fate e k = k
  writes_holds {R = R} w (Some h) fate e k =
      let kept = subst (λ g. Kept table (state_closed table start w.closed) g w.registers) e k.kept in
      let read = subst (Reads R) e k.reads in
      record {
        told = k.told;
        sits = k.sits;
        kept = further (state_closed table start w.closed) h.target h.phase fate (if is_met fate then word_met w.registers (word_of h.target h.phase) else w.registers) (met_or_not (state_closed table start w.closed) h.target (is_met fate) h.phase w.registers kept);
        reads = λ more. read more ∙ ap (λ c. state_ends h.target c more) (sym (code_behind h.phase fate));
      }

  -- a service is closed: its answer is the table's, and nothing of it is left
  closes : {M R : Type 0} (w : States M R) (h : Hand M) (answer : Outcome R) (read : List (News M)) → HoldsAt w → (let s = state_closed table start w.closed in
      (answer ≡ answer_of (table s h.target)) × Idle table (state_behind table s h.target) w.registers) → state_ends h.target None read ≡ Some answer →
      HoldsAt (turned w h.target read (Turn.Ends answer))
  closes {M} {R} w h answer read k is e =
      let s = state_closed table start w.closed in
      let c : Closed M R = record { target = h.target; answer = answer; read = read } in
      let same = closed_push table start w.closed c in
      record {
        told = told_push table start w.closed c k.told is.0 e;
        sits = subst (λ n. table n n ≡ None) (sym same) (sits_behind (table s h.target) refl);
        kept = subst (λ n. Idle table n w.registers) (sym same) is.1;
        reads = tt;
      }
    where
      sits_behind : (v : Option ℕ) → (let s = state_closed table start w.closed in table s h.target) ≡ v → (let n = reached v (state_closed table start w.closed) h.target in table n n) ≡ None
      sits_behind None f = stays (state_closed table start w.closed) h.target f
      sits_behind (Some code) f = k.sits

  goes : {M R : Type 0} (w : States M R) (h : Hand M) (phase : Phase) (read : List (News M)) → HoldsAt w → InHand table (state_closed table start w.closed) h.target phase w.registers →
      Reads R (Some (record { target = h.target; phase = phase; read = read })) → HoldsAt (turned w h.target read (Turn.Goes phase))
  goes w h phase read k kept reads = record { told = k.told; sits = k.sits; kept = kept; reads = reads }

  -- one more status read
  read_on : {M R : Type 0} (t : ℕ) (code : Option ℕ) (read : List (News M)) (n : News M) → ((more : List (News M)) → state_ends {R = R} t None (read ++ more) ≡ state_ends t code more) →
      (more : List (News M)) → state_ends {R = R} t None ((read ++ n ∷ []) ++ more) ≡ state_ends t code (n ∷ more)
  read_on {R = R} t code read n before more = ap (state_ends {R = R} t None) (append_assoc read (n ∷ []) more) ∙ before (n ∷ more)

  -- the target is read
  arrives : (s t : ℕ) (r : Registers) → table s s ≡ None → InHand table s t Phase.Await r → r.refused ≡ None → r.state ≡ t →
      (table s t ≡ None) × Idle table t r
  arrives s t r sits (inl k) e f =
      let same : s ≡ t = sym k.state ∙ f in
      (ap (table s) (sym same) ∙ sits, record { state = f; refused = e; word = λ c g. at same (k.word c g) })
    where
      at : {n : ℕ} → s ≡ t → (n ≡ s) ⊎ (n ≡ t) → n ≡ t
      at same (inl g) = g ∙ same
      at same (inr g) = g
  arrives s t r sits (inr (inl k)) e f = (k.made, record { state = f; refused = e; word = k.word })
  arrives s t r sits (inr (inr k)) e f = absurd (let no = k.refused in cc)

  -- the error flag is read
  flags : (s t : ℕ) (r : Registers) (code : ℕ) → InHand table s t Phase.Await r → r.refused ≡ Some code → (r.state ≡ s) × Flag table s t code r
  flags s t r code (inl k) e = absurd (let no = k.refused in cc)
  flags s t r code (inr (inl k)) e = absurd (let no = k.refused in cc)
  flags s t r code (inr (inr k)) e =
      let same : Some k.code ≡ Some code = sym k.refused ∙ e in
      (k.state, record { denied = k.denied ∙ same; state = k.state; refused = e; word = λ c g. inl (k.word c g); asks = λ c g. inr (k.asks c g) })

  -- no flag is read behind one
  recovers : (s t first : ℕ) (r : Registers) → Flag table s t first r ⊎ Cleared table s t first r → r.refused ≡ None → (table s t ≡ Some first) × Idle table s r
  recovers s t first r (inl k) e = absurd (let no = k.refused in cc)
  recovers s t first r (inr k) e = (k.denied, record { state = k.state; refused = e; word = k.word })

  shows : {M R : Type 0} (w : States M R) (h : Hand M) (refused : Option ℕ) (phase : Phase) → w.registers.refused ≡ refused → reads phase ≡ true → HoldsAt w → InHand table (state_closed table start w.closed) h.target phase w.registers →
      ((more : List (News M)) → state_ends {R = R} h.target None (h.read ++ more) ≡ state_ends h.target (code_read phase) more) →
      HoldsAt (turned w h.target (h.read ++ News.Status w.registers.state refused ∷ []) (shown h.target phase w.registers.state refused))
  shows w h refused Phase.Ask e never k kept before = absurd (cc)
  shows w h refused (Phase.Acknowledge state first) e never k kept before = absurd (cc)
  shows {M} {R} w h None Phase.Await e does k kept before = go (w.registers.state == h.target) refl
    where
      read : List (News M)
      read = h.read ++ News.Status w.registers.state None ∷ []

      on : (more : List (News M)) → state_ends {R = R} h.target None (read ++ more) ≡ (if w.registers.state == h.target then Some Outcome.Reached else state_ends h.target None more)
      on more = read_on h.target None h.read (News.Status w.registers.state None) before more

      go : (same : Bool) → (w.registers.state == h.target) ≡ same → HoldsAt (turned w h.target read (if same then Turn.Ends Outcome.Reached else Turn.Goes Phase.Await))
      go true f =
          let s = state_closed table start w.closed in
          let is = arrives s h.target w.registers k.sits kept e (eqb-true w.registers.state h.target f) in
          closes w h Outcome.Reached read k
          (ap answer_of (sym is.0), subst (λ v. Idle table (reached v s h.target) w.registers) (sym is.0) is.1)
          (ap (state_ends {R = R} h.target None) (sym (append-nil read)) ∙ on [] ∙ ap (λ b. if b then Some Outcome.Reached else None) f)
      go false f = goes w h Phase.Await read k kept (λ more. on more ∙ ap (λ b. if b then Some Outcome.Reached else state_ends {R = R} h.target None more) f)
  shows {R = R} w h (Some code) Phase.Await e does k kept before =
      let is = flags (state_closed table start w.closed) h.target w.registers code kept e in
      goes w h (Phase.Acknowledge w.registers.state code) (h.read ++ News.Status w.registers.state (Some code) ∷ []) k (is.0, inl is.1)
      (read_on {R = R} h.target None h.read (News.Status w.registers.state (Some code)) before)
  shows {M} {R} w h None (Phase.Recover first) e does k kept before =
      let s = state_closed table start w.closed in
      let is = recovers s h.target first w.registers kept e in
      let read : List (News M) = h.read ++ News.Status w.registers.state None ∷ [] in
      closes w h (Outcome.Refused first) read k
      (ap answer_of (sym is.0), subst (λ v. Idle table (reached v s h.target) w.registers) (sym is.0) is.1)
      (ap (state_ends {R = R} h.target None) (sym (append-nil read)) ∙ read_on {R = R} h.target (Some first) h.read (News.Status w.registers.state None) before [])
  shows {R = R} w h (Some code) (Phase.Recover first) e does k kept before =
      goes w h (Phase.Recover first) (h.read ++ News.Status w.registers.state (Some code) ∷ []) k kept
      (read_on {R = R} h.target (Some first) h.read (News.Status w.registers.state (Some code)) before)

  looks_holds : {M R : Type 0} (w : States M R) (hand : Option (Hand M)) (fate : Fate) → w.hand ≡ hand → HoldsAt w → HoldsAt (looks w hand fate)
  looks_holds w None fate e k = k
  looks_holds w (Some h) Fate.LostBefore e k = k
  looks_holds w (Some h) Fate.LostBehind e k = k
  looks_holds {R = R} w (Some h) Fate.Pass e k = go (reads h.phase) refl
    where
      go : (b : Bool) → reads h.phase ≡ b → HoldsAt (returned w h b)
      go false f = k
      go true f = shows w h w.registers.refused h.phase refl f k (subst (λ g. Kept table (state_closed table start w.closed) g w.registers) e k.kept) (subst (Reads R) e k.reads)

  pub happens_holds : {M R : Type 0} (w : States M R) (e : Event) → HoldsAt w → HoldsAt (happens table w e)
  happens_holds w (Event.Begin target) k = begins_holds w w.hand target refl k
  happens_holds w (Event.Write fate) k = writes_holds w w.hand fate refl k
  happens_holds w (Event.Read fate) k = looks_holds w w.hand fate refl k
  happens_holds w Event.Step k = record { told = k.told; sits = k.sits; kept = kept_step table (state_closed table start w.closed) k.sits (stays (state_closed table start w.closed)) w.hand w.registers k.kept; reads = k.reads }

  pub run_holds : {M R : Type 0} (w : States M R) (es : List Event) → HoldsAt w → HoldsAt (run table w es)
  run_holds w [] k = k
  run_holds w (e ∷ es) k = run_holds (happens table w e) es (happens_holds w e k)

  asked_stands : (s t : ℕ) (r : Registers) → InHand table s t Phase.Await r → ((r.state ≡ s) ⊎ (r.state ≡ state_behind table s t)) × ((code : ℕ) → r.refused ≡ Some code → table s t ≡ Some code)
  asked_stands s t r (inl k) = (inl k.state, λ code e. absurd (let no = k.refused in cc))
  asked_stands s t r (inr (inl k)) = (inr (k.state ∙ ap (λ v. reached v s t) (sym k.made)), λ code e. absurd (let no = k.refused in cc))
  asked_stands s t r (inr (inr k)) = (inl k.state, λ code e. k.denied ∙ sym k.refused ∙ e)

  acknowledged_stands : (s t first : ℕ) (r : Registers) → Flag table s t first r ⊎ Cleared table s t first r → ((r.state ≡ s) ⊎ (r.state ≡ state_behind table s t)) × ((code : ℕ) → r.refused ≡ Some code → table s t ≡ Some code)
  acknowledged_stands s t first r (inl k) = (inl k.state, λ code e. k.denied ∙ sym k.refused ∙ e)
  acknowledged_stands s t first r (inr k) = (inl k.state, λ code e. absurd (let no = k.refused in cc))

  pub stands : {M : Type 0} (s : ℕ) (hand : Option (Hand M)) (r : Registers) → Kept table s hand r → Stands table s hand r.state r.refused × Flagged table s hand r.refused
  stands s None r k = ((k.state, k.refused), k.refused)
  stands s (Some h) r k = go h.phase k
    where
      go : (phase : Phase) → InHand table s h.target phase r → ((r.state ≡ s) ⊎ (r.state ≡ state_behind table s h.target)) × ((code : ℕ) → r.refused ≡ Some code → table s h.target ≡ Some code)
      go Phase.Ask k = asked_stands s h.target r k
      go Phase.Await k = asked_stands s h.target r k
      go (Phase.Acknowledge state first) k = acknowledged_stands s h.target first r k.1
      go (Phase.Recover first) k = acknowledged_stands s h.target first r k

  pending : {M : Type 0} (R : Type 0) (hand : Option (Hand M)) → Reads R hand → Pending R hand
  pending R None k = tt
  pending R (Some h) k = ap (state_ends {R = R} h.target None) (sym (append-nil h.read)) ∙ k []

  pub promised : {M R : Type 0} (w : States M R) → HoldsAt w → StatesPromised table start w
  promised {R = R} w k =
      let at = stands (state_closed table start w.closed) w.hand w.registers k.kept in
      record { told = k.told; stands = at.0; flagged = at.1; pending = pending R w.hand k.reads }

  pub new_holds : {M R : Type 0} (r : Registers) → table start start ≡ None → HoldsAt (new_states {M = M} {R = R} r start)
  new_holds r sits = record { told = tt; sits = sits; kept = record { state = refl; refused = refl; word = λ c e. absurd (cc) }; reads = tt }

-- for every run from the end of bring-up on
pub states_promised : {M R : Type 0} (table : Table) (start : ℕ) → IsTable table start → (r : Registers) (es : List Event) → StatesPromised table start (run table (new_states {M = M} {R = R} r start) es)
states_promised {M} {R} table start is r es =
    let new = new_states {M = M} {R = R} r start in
    promised table is.stays start (run table new es) (run_holds table is.stays start new es (new_holds table is.stays start r is.sits))
