-- A step of the slave's processor is the same where it is seen what is meant by its mails.
use Rattle.std.proofs.Common.{◌≡◌, ◌⊎◌, inl, inr, ℕ, ◌==◌, Bool, true, false, Option, None, Some, List, [], ◌∷◌, ◌++◌, map, refl, ap, sym, ◌∙◌, subst, append_assoc, append-nil, eqb-true, if◌then◌else◌}
use Rattle.master_hand.specs.of_exchange_model.Exchange.{Exchange, IsLawful, after}
use Rattle.master_hand.specs.of_exchange_model.Rows.{told_all, services}
use Rattle.master_hand.proofs.of_exchange_model.Lists.{append_cancel, append_none}
use Rattle.few_replies.specs.of_link_model.Slave.{node_look, node_takes, node_serve}
use Rattle.few_replies.proofs.of_link_model.Law.{taken_of_held, accepted_of_offered}
use Rattle.few_replies.specs.Calm.{calm_tagged}
use Rattle.few_replies.specs.Client.{ByContents}
use Rattle.master_hand.specs.of_segment_model.Ends.{Outcome}
use Rattle.master_hand.specs.of_segment_model.Record.{Frame, heard}
use Rattle.master_hand.specs.of_segment_model.Seats.{Seat, link_of, seat_steps}
use Rattle.master_hand.specs.of_segment_model.Slaves.{serving, Registers, Processor, Slave, state_told, slave_steps}
use Rattle.few_replies.proofs.of_segment_model.Sounds.{step_agrees}
use Rattle.master_hand.specs.of_serving_model.Erasing.{node_as, slave_as, out_as}
use Rattle.master_hand.specs.of_serving_model.Tagged.{IsServed, Tagged, Asked, Rowed, real, ideal, ideal_in, rows_done}
use Rattle.master_hand.specs.of_serving_model.TaggedStates.{IsStatedServed, told_state, tagged_states}
use Rattle.few_replies.proofs.of_serving_model.Erasing.{looked-as, serve-as}
use Rattle.few_replies.proofs.of_serving_model.TaggedLaw.{same-is}
use Rattle.master_hand.specs.of_state_model.Stated.{Stated, IsStated, Act, acts, Service, Counting, with_states}
use Rattle.few_replies.proofs.of_state_model.Acts.{acts_append}
use Rattle.master_hand.specs.of_state_model.Promises.{IsTable, state_behind}
use Rattle.master_hand.specs.of_state_model.States.{Table, Phase, carry}
use Rattle.master_hand.specs.of_state_model.Accounts.{Account, Duty, Stage}
use Rattle.master_hand.specs.of_state_model.Promise.{services_in}
use Rattle.few_replies.proofs.of_state_model.Carries.{StaysOr}
use Rattle.few_replies.proofs.of_state_model.Ghosts as Ghosts
use Rattle.few_replies.proofs.of_state_model.Ghosts.{counting, starts_of, Staged, Carried}
use Rattle.few_replies.proofs.of_state_model.Moves.{in_hand}
use Rattle.few_replies.proofs.of_state_model.Newest.{Holds}
use Rattle.few_replies.proofs.of_state_model.Served.{duty_of}
use Rattle.few_replies.proofs.of_state_model.Stately.{StageStep, StateStep, state_over, step_state}
use Rattle.few_replies.proofs.of_state_model.Stepped.{Shifts, carried_tells}
use Rattle.life_counts.specs.Foreseen.{AllRight}
use Rattle.life_counts.proofs.Rights.{Between, IsRight, alike, rows_between, next_right, accepted_tells}

-- the services of rows are those that came into hand
pub started_services : {M Q R : Type 0} (gs : List (Ghosts.GhostRow M Q R)) → services_in (starts_of gs) ≡ services gs
started_services [] = refl
started_services (g ∷ gs) = ap (λ l. g.service ∷ l) (started_services gs)

-- the AL state stays, or a state service in hand changes it
shifted : (table : Table) (from : ℕ) (hand : Option Duty) (r : Registers) → StateStep table from hand r → Shifts table from hand r.state (carry table r).state
shifted table from None r h = inl h
shifted table from (Some duty) r h = stage duty.stage refl h
  where
    stays_or : (phase : Phase) → duty.stage ≡ Stage.Goes phase → StaysOr table from duty.target r → Shifts table from (Some duty) r.state (carry table r).state
    stays_or phase e (inl k) = inl k
    stays_or phase e (inr k) = inr (duty.target, duty.frame, phase, (λ i. Some (record { target = duty.target; frame = duty.frame; stage = e i })), k.0, k.1)

    stage : (stage : Stage) → duty.stage ≡ stage → StageStep table from duty.target stage r → Shifts table from (Some duty) r.state (carry table r).state
    stage Stage.Drains e k = inl k
    stage (Stage.Goes phase) e k = stays_or phase e k

module _ {V M Q R C : Type 0} (x : Exchange V V M Q R) (core : V → C) (law : IsServed x core) (calm : V → Bool) (fair : M → Bool) (s : Stated V V Q) (owes : IsStatedServed x s) where
  -- a server in a row is in the AL state of the one behind whole rows
  state_part : (base : V) (part : List M) → s.state (after x.serve base part) ≡ s.state base
  state_part base [] = refl
  state_part base (m ∷ part) = state_part (x.serve base m).0 part ∙ owes.stays base m

  state_ideal : (w : Rowed V M Q) → s.state (ideal x w) ≡ s.state w.base
  state_ideal w = go w.hand
    where
      of : (b : Bool) (q : Q) → s.state (if b then w.base else x.exec w.base q) ≡ s.state w.base
      of true q = refl
      of false q = owes.keeps w.base q

      go : (hand : Option Q) → s.state (ideal_in x w.base (real x w) hand) ≡ s.state w.base
      go None = refl
      go (Some q) = of (x.handled (real x w) == x.handled w.base) q

  -- IT IS TOLD AN AL STATE: that which stands, or another between rows
  tell_real : (state : ℕ) (w : Rowed V M Q) → (s.state (ideal x w) ≡ state) ⊎ Between x w → real x (told_state x s state w) ≡ s.tell state (real x w)
  tell_real state w known = go (s.state (ideal x w) == state) refl known
    where
      same : s.state (ideal x w) ≡ state → real x w ≡ s.tell state (real x w)
      same e = sym (ap (λ k. s.tell k (real x w)) (sym e ∙ state_ideal w ∙ sym (state_part w.base w.part)) ∙ owes.same (real x w))

      go : (b : Bool) → (s.state (ideal x w) == state) ≡ b → (s.state (ideal x w) ≡ state) ⊎ Between x w →
          real x (if b then w else record { base = s.tell state (ideal x w); hand = None; part = []; count = rows_done x w }) ≡ s.tell state (real x w)
      go true e k = same (eqb-true (s.state (ideal x w)) state e)
      go false e (inl k) = absurd (let no : false ≡ true = sym e ∙ same-is (s.state (ideal x w)) state k in cc)
      go false e (inr k) = ap (s.tell state) k

  module _ (t : Table) (lawful : IsLawful (calm_tagged x calm fair)) (stated : IsStated (calm_tagged x calm fair) (tagged_states x s)) where
    abbrev y : Exchange (Rowed V M Q) V (Tagged M Q) (Asked M Q) (Option R)
    y = calm_tagged x calm fair

    abbrev st : Stated (Rowed V M Q) V (Asked M Q)
    st = tagged_states x s

    abbrev serves_both : Exchange (Counting (Rowed V M Q)) (V × ℕ) (Act (Tagged M Q)) (Service (Asked M Q)) (Outcome (Option R))
    serves_both = with_states y st t

    abbrev SeatHere : Type 0
    SeatHere = Seat (Rowed V M Q) (Tagged M Q) (Asked M Q) (Option R)

    abbrev AccountHere : Type 0
    AccountHere = Account (Asked M Q) (Option R)

    -- WHAT A SEAT'S SERVER TAKES NEXT is taken right
    module _ (from : ℕ) (seat : SeatHere) (a : AccountHere) (ready : y.ready seat.start ≡ true) (same : Between x seat.start) (right : AllRight x s t (ideal x seat.start) (services_in a.started)) where
      rights_of : (taken : List (Act (Tagged M Q))) (rest : List (Tagged M Q)) (r : Ghosts.Rowed y lawful st t from seat a taken rest) → AllRight x s t (ideal x seat.start) (services ((r.front ++ r.last) ++ r.now ∷ []))
      rights_of taken rest r = subst (AllRight x s t (ideal x seat.start))
          (ap services_in (sym r.started) ∙ started_services ((r.front ++ r.last) ++ r.now ∷ [])) right

      rows_next : (taken : List (Act (Tagged M Q))) (rest : List (Tagged M Q)) (r : Ghosts.Rowed y lawful st t from seat a taken rest) (p : List (Act (Tagged M Q))) (m : Tagged M Q) (behind : List (Act (Tagged M Q))) → taken ++ acts rest ≡ p ++ Act.Mail m ∷ behind →
          IsRight x (after serves_both.serve (counting seat.start) p).server m
      rows_next taken rest r p m behind e =
          let fits = r.moment.fits in
          next_right x core law calm fair s t lawful stated (counting seat.start) same ready (r.front ++ r.last) r.now fits.settled (rights_of taken rest r) fits.mine p m behind (sym fits.all_held ∙ e)

      -- the next mail, at what was taken so far
      pub takes_next : (c : Carried y lawful st t from seat a) (m : Tagged M Q) (more : List (Tagged M Q)) → c.rest ≡ m ∷ more → IsRight x seat.slave.node.server.server m
      takes_next c m more e = subst (λ v. IsRight x v m) c.serves (elim c.rows [
        | inl u ↦ absurd (let none : c.rest ≡ [] = (append_none seat.taken c.rest (sym c.held_is ∙ u.held)).1 in let no : m ∷ more ≡ [] = sym e ∙ none in cc)
        | inr r ↦ rows_next c.taken c.rest r c.taken m (acts more) (ap (λ l. c.taken ++ acts l) e)
      ])

      -- WHAT WAS ACCEPTED is told by its contents
      pub accepted_by : (c : Carried y lawful st t from seat a) (rest : List (Tagged M Q)) → seat.offered ≡ seat.accepted ++ rest → ByContents x.speech.emission seat.accepted
      accepted_by c rest e = accepted_tells x core law calm fair s t lawful stated (counting seat.start) c.taken seat.accepted
          (acts (rest ++ seat.slave.node.server.waiting), sym (c.gave ∙ ap (λ l. acts (l ++ seat.slave.node.server.waiting)) e ∙ ap acts (append_assoc seat.accepted rest seat.slave.node.server.waiting) ∙ acts_append seat.accepted (rest ++ seat.slave.node.server.waiting)))
          (λ p m behind f. elim c.rows [
            | inl u ↦ absurd (none p m behind (sym u.none ∙ f))
            | inr r ↦ rows_next c.taken c.rest r p m (behind ++ acts c.rest) (ap (λ l. l ++ acts c.rest) f ∙ append_assoc p (Act.Mail m ∷ behind) (acts c.rest))
          ])
        where
          none : (p : List (Act (Tagged M Q))) (m : Tagged M Q) (behind : List (Act (Tagged M Q))) → [] ≡ p ++ Act.Mail m ∷ behind → ⊥
          none [] m behind e = (let no : [] ≡ Act.Mail m ∷ behind = e in cc)
          none (k ∷ p) m behind e = (let no : [] ≡ k ∷ (p ++ Act.Mail m ∷ behind) = e in cc)

      -- with all taken the server is between rows
      pub all_taken : (c : Carried y lawful st t from seat a) (r : Ghosts.Rowed y lawful st t from seat a c.taken c.rest) → c.rest ≡ [] → r.now.told ≡ [] → Between x seat.slave.node.server.server
      all_taken c r none told =
          let past = r.front ++ r.last in
          let e : c.taken ≡ told_all past =
          sym (append-nil c.taken) ∙ ap (λ l. c.taken ++ acts l) (sym none) ∙ r.moment.fits.all_held ∙ ap (λ l. told_all past ++ l) told ∙ append-nil (told_all past) in
          subst (Between x) c.serves (subst (λ l. Between x (after serves_both.serve (counting seat.start) l).server) (sym e)
          (rows_between x core law calm fair s t lawful stated (counting seat.start) same ready past r.moment.fits.settled))

    -- WHAT WAS HEARD of a slave so far is told by its contents
    pub heard_tells : (more : Tagged M Q → Bool) (begun : ℕ) (is : IsTable t begun) (fs : List (Frame (Tagged M Q))) (seat : SeatHere) (a : AccountHere) → Holds y lawful st stated t more begun is fs seat a → Between x seat.start →
        AllRight x s t (ideal x seat.start) (services_in a.started) → ByContents x.speech.emission (heard seat.station fs)
    heard_tells more begun is fs seat a h same right =
        let p : (rest : List (Tagged M Q)) × (seat.offered ≡ seat.accepted ++ rest) = accepted_of_offered (link_of seat) h.agrees in
        subst (ByContents x.speech.emission) h.records.hears (accepted_by (state_over t begun a.over) seat a h.ready same right h.carried p.0 p.1)

    -- A STEP
    module _ {A T : Type 0} (u : Exchange V A M T (Option R)) (processor : Processor V) (seer : Processor (Rowed V M Q)) (serve : u.serve ≡ x.serve) (tells : (state : ℕ) (v : V) → processor.tell state v ≡ s.tell state v)
        (tells_seen : (state : ℕ) (v : Rowed V M Q) → seer.tell state v ≡ st.tell state v) (carries : (r : Registers) → seer.carry r ≡ processor.carry r) (worded : (r : Registers) → seer.carry r ≡ carry t r)
        (more : Tagged M Q → Bool) (begun : ℕ) (is : IsTable t begun) (fs : List (Frame (Tagged M Q))) (seat : SeatHere) (a : AccountHere) (h : Holds y lawful st stated t more begun is fs seat a)
        (same : Between x seat.start) (right : AllRight x s t (ideal x seat.start) (services_in a.started)) where
      abbrev from : ℕ
      from = state_over t begun a.over

      abbrev old : Registers
      old = seat.slave.registers

      abbrev now : Registers
      now = seer.carry old

      abbrev v : Rowed V M Q
      v = seat.slave.node.server.server

      abbrev mail : Tagged M Q → M
      mail k = k.mail

      abbrev told : Slave (Rowed V M Q) (Tagged M Q)
      told = record { node = state_told seer now.state (node_look seat.slave.node); registers = now }

      shift : Shifts t from a.hand old.state now.state
      shift = subst (λ q. Shifts t from a.hand old.state q.state) (sym (worded old)) (shifted t from a.hand old (step_state t begun is seat.station fs old a h.stately))

      carried : Carried y lawful st t from (record seat { slave = told }) a
      carried = carried_tells y lawful st t stated from seat a told (λ i. record seat.slave.node.server { server = tells_seen now.state v i }) h.ready h.carried shift

      -- the state that is told stands, or the server is between rows
      changed : (target frame : ℕ) (phase : Phase) → a.hand ≡ Some (duty_of target frame (Stage.Goes phase)) → now.state ≡ state_behind t from target → (s.state (ideal x v) ≡ now.state) ⊎ Between x v
      changed target frame phase hand new =
          let k = in_hand y lawful st t stated from seat a h.carried (duty_of target frame (Stage.Goes phase)) hand in
          let g : Staged t from old.state h.carried.rest seat.side.halves.out.holding k.1.target k.0.now.frame (Some (duty_of target frame (Stage.Goes phase))) k.0.now.told =
          subst (λ z. Staged t from old.state h.carried.rest seat.side.halves.out.holding k.1.target k.0.now.frame z k.0.now.told) hand k.1.stage in
          elim g.2.1 [
            | inl wait ↦ inr (all_taken from seat a h.ready same right h.carried k.0 g.2.0 wait.0)
            | inr word ↦ inl (sym h.carried.state ∙ word.1 ∙ sym (ap (state_behind t from) g.0) ∙ sym new)
          ]

      known : (s.state (ideal x v) ≡ now.state) ⊎ Between x v
      known = elim shift [
        | inl e ↦ inl (sym h.carried.state ∙ sym e)
        | inr k ↦ changed k.0 k.1 k.2 k.3 k.5
      ]

      -- the mail that it takes then
      taken_right : (m : Tagged M Q) → node_takes (serving y) told.node ≡ m ∷ [] → IsRight x told.node.server.server m
      taken_right m e =
          let p : (rest : List (Tagged M Q)) × (seat.held ≡ (seat.taken ++ node_takes (serving y) told.node) ++ rest) = taken_of_held (link_of (seat_steps y seer seat)) (step_agrees y seer seat h.agrees) in
          let split : carried.rest ≡ m ∷ p.0 =
          append_cancel seat.taken carried.rest (m ∷ p.0) (sym carried.held_is ∙ p.1 ∙ append_assoc seat.taken (node_takes (serving y) told.node) p.0 ∙ ap (λ l. seat.taken ++ (l ++ p.0)) e) in
          takes_next from (record seat { slave = told }) a h.ready same right carried m p.0 split

      pub stepped : slave_as mail (real x) (slave_steps y seer seat.slave) ≡ slave_steps u processor (slave_as mail (real x) seat.slave)
      stepped =
          let n = seat.slave.node in
          let serves = serve-as mail (real x) y u told.node (λ m e.
          (let k = alike x told.node.server.server m (taken_right m e) in
          (k.server ∙ ap (λ g. (g (real x told.node.server.server) m.mail).0) (sym serve), k.gives ∙ ap (λ g. (g (real x told.node.server.server) m.mail).1) (sym serve)))) in
          let server : real x (seer.tell now.state v) ≡ processor.tell now.state (real x v) = ap (real x) (tells_seen now.state v) ∙ tell_real now.state v known ∙ sym (tells now.state (real x v)) in
          let looks : node_as mail (real x) told.node ≡ state_told processor now.state (node_look (node_as mail (real x) n)) =
          (λ i. record { out = out_as mail n.out; inn = looked-as mail (real x) n.inn i; server = record { server = server i; waiting = map mail n.server.waiting } }) in
          ap (λ k. record { node = k; registers = now }) (serves ∙ ap (node_serve (serving u)) looks)
          ∙ ap (λ (r : Registers). record { node = node_serve (serving u) (state_told processor r.state (node_look (node_as mail (real x) n))); registers = r }) (carries old)
