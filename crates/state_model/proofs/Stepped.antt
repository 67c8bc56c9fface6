-- The ghost rows over a step of the slave's processor, which tells its server the AL state and then serves, and at the end of
-- bring-up.
use Rattle.std.proofs.Common.{◌≡◌, ◌⊎◌, inl, inr, ℕ, true, Option, None, Some, List, [], ◌∷◌, ◌++◌, refl, sym, ap, ap₂, ◌∙◌, subst, append_assoc}
use Rattle.segment_model.specs.of_exchange_model.Exchange.{Exchange, IsLawful, after, given}
use Rattle.segment_model.proofs.of_exchange_model.Lists.{append_none, append_cancel}
use Rattle.segment_model.proofs.of_exchange_model.Words.{after-append, given-append}
use Rattle.segment_model.proofs.of_exchange_model.Moments
use Rattle.segment_model.specs.of_link_model.Slave.{Node, node_look, node_take, node_takes, node_offers, node_serve}
use Rattle.segment_model.proofs.of_link_model.Law.{taken_of_held}
use Rattle.segment_model.specs.Slaves.{Serving, serving, Registers, Processor, state_told, Slave}
use Rattle.segment_model.specs.Seats.{Seat, Planned, link_of, seat_steps, new_seat}
use Rattle.segment_model.proofs.Links.{served_server, served_gives}
use Rattle.segment_model.proofs.Sounds.{SeatAgrees}
use Rattle.state_model.specs.States.{Table, Phase, carry}
use Rattle.state_model.specs.Promises.{state_behind}
use Rattle.state_model.specs.Stated.{Stated, IsStated, Act, acts, with_states}
use Rattle.state_model.proofs.Acts.{acts_append, mails_acts, mails_append, after_acts, given_acts, state_kept}
use Rattle.state_model.proofs.StatedLaw.{stated_law}
use Rattle.state_model.specs.Accounts.{Account, Duty, Stage, new_account}
use Rattle.state_model.proofs.Carries.{StaysOr}
use Rattle.state_model.proofs.Served.{duty_of}
use Rattle.state_model.proofs.Stately.{StageStep, StateStep}
use Rattle.state_model.proofs.Ghosts.{counting, Staged, StateNow, Rowed, Carried}
use Rattle.state_model.proofs.Begins.{same_moment}
use Rattle.state_model.proofs.Moves.{carried_slave, in_hand, staged_on, word_taken, worded}

-- the AL state stays, or a state service in hand changed it
abbrev pub Shifts : Table → ℕ → Option Duty → ℕ → ℕ → Type 0
Shifts table from hand old new =
    (new ≡ old) ⊎ ((target : ℕ) × (begun : ℕ) × (phase : Phase) × (hand ≡ Some (duty_of target begun (Stage.Goes phase))) × (old ≡ from) × (new ≡ state_behind table from target))

shifts : (table : Table) (from : ℕ) (hand : Option Duty) (r : Registers) → StateStep table from hand r → Shifts table from hand r.state (carry table r).state
shifts table from None r h = inl h
shifts table from (Some duty) r h = stage duty.stage refl h
  where
    stays_or : (phase : Phase) → duty.stage ≡ Stage.Goes phase → StaysOr table from duty.target r → Shifts table from (Some duty) r.state (carry table r).state
    stays_or phase e (inl k) = inl k
    stays_or phase e (inr k) = inr (duty.target, duty.frame, phase, (λ i. Some (record { target = duty.target; frame = duty.frame; stage = e i })), k.0, k.1)

    stage : (stage : Stage) → duty.stage ≡ stage → StageStep table from duty.target stage r → Shifts table from (Some duty) r.state (carry table r).state
    stage Stage.Drains e k = inl k
    stage (Stage.Goes phase) e k = stays_or phase e k

module _ {V A M Q R : Type 0} (x : Exchange V A M Q R) (law : IsLawful x) (s : Stated V A Q) (table : Table) (stated : IsStated x s) where
  -- THE SERVER IS TOLD THE AL STATE: where that stands already it is no news, and else the control word of the state service in hand is taken
  module _ (from : ℕ) (seat : Seat V M Q R) (a : Account Q R) (slave : Slave V M) (tells : slave.node.server ≡ record seat.slave.node.server { server = s.tell slave.registers.state seat.slave.node.server.server })
      (ready : x.ready seat.start ≡ true) (c : Carried x law s table from seat a) where
    no_news : slave.registers.state ≡ seat.slave.registers.state → Carried x law s table from (record seat { slave = slave }) a
    no_news e =
        let v = seat.slave.node.server.server in
        let same : s.tell slave.registers.state v ≡ v = ap (λ st. s.tell st v) (e ∙ c.state) ∙ stated.same v in
        carried_slave x law s table stated from seat a slave (tells ∙ (λ i. record seat.slave.node.server { server = same i })) e c

    changes : (target begun : ℕ) (phase : Phase) → a.hand ≡ Some (duty_of target begun (Stage.Goes phase)) → seat.slave.registers.state ≡ from → slave.registers.state ≡ state_behind table from target → Carried x law s table from (record seat { slave = slave }) a
    changes target begun phase hand old new =
        let k = in_hand x law s table stated from seat a c (duty_of target begun (Stage.Goes phase)) hand in
        let st : Staged table from seat.slave.registers.state c.rest seat.side.halves.out.holding k.1.target k.0.now.frame (Some (duty_of target begun (Stage.Goes phase))) k.0.now.told =
        subst (λ h. Staged table from seat.slave.registers.state c.rest seat.side.halves.out.holding k.1.target k.0.now.frame h k.0.now.told) hand k.1.stage in
        elim st.2.1 [
          | inl wait ↦ first k.0 k.1 (new ∙ ap (state_behind table from) st.0) st wait.0
          | inr worded ↦ no_news (new ∙ ap (state_behind table from) st.0 ∙ sym worded.1)
        ]
      where
        first : (r : Rowed x law s table from seat a c.taken c.rest) (n : StateNow x law s table from seat.slave.registers.state c.rest seat.side a.hand (r.front ++ r.last) r.now) → slave.registers.state ≡ state_behind table from n.target →
            Staged table from seat.slave.registers.state c.rest seat.side.halves.out.holding n.target r.now.frame (Some (duty_of target begun (Stage.Goes phase))) r.now.told → r.now.told ≡ [] → Carried x law s table from (record seat { slave = slave }) a
        first r n is st none =
            let v = seat.slave.node.server.server in
            let w = word_taken x law s table stated from seat a ready c r n st.2.0 none in
            worded x law s table stated from from seat a a slave c r n w refl (ap (λ o. s.tell (state_behind table o n.target) v) old ∙ ap (λ o. s.tell o v) (sym is) ∙ ap (λ z. z.server) (sym tells)) (ap (λ z. z.waiting) tells)
            (sym (ap s.state (stated.app slave.registers.state v) ∙ stated.is slave.registers.state (x.app v)) ∙ ap (λ z. s.state (x.app z.server)) (sym tells))
            (subst (λ h. Staged table from slave.registers.state c.rest seat.side.halves.out.holding n.target r.now.frame h (r.now.told ++ Act.Word n.target ∷ [])) (sym hand) (st.0, st.1, (st.2.0, inr (w.told, is))))

    pub carried_tells : Shifts table from a.hand seat.slave.registers.state slave.registers.state → Carried x law s table from (record seat { slave = slave }) a
    carried_tells (inl same) = no_news same
    carried_tells (inr k) = changes k.0 k.1 k.2 k.3 k.4 k.5

  -- IT SERVES: steps 4 and 5 of a node
  abbrev served_seat : Seat V M Q R → Seat V M Q R
  served_seat seat =
      let n = seat.slave.node in
      record seat {
        slave = record seat.slave { node = node_serve (serving x) n };
        taken = seat.taken ++ node_takes (serving x) n;
        offered = seat.offered ++ node_offers (serving x) (node_take (serving x) n);
      }

  pub carried_serves : (from : ℕ) (seat : Seat V M Q R) (a : Account Q R) → x.ready seat.start ≡ true → SeatAgrees x (served_seat seat) → Carried x law s table from seat a → Carried x law s table from (served_seat seat) a
  carried_serves from seat a ready agrees c =
      record {
        taken = c.taken ++ acts takes;
        rest = more;
        taken_is = mails_append c.taken (acts takes) ∙ ap₂ (λ (l k : List M). l ++ k) c.taken_is (mails_acts takes);
        held_is = p.1;
        serves =
            ap (λ v. v.server) (after-append (with_states x s table).serve (counting seat.start) c.taken (acts takes))
            ∙ ap (λ v. v.server) (after_acts x s table (after (with_states x s table).serve (counting seat.start) c.taken) takes)
            ∙ ap (λ v. after x.serve v takes) c.serves ∙ sym (served_server x n);
        gave =
            given-append (with_states x s table).serve (counting seat.start) c.taken (acts takes)
            ∙ ap₂ (λ (l k : List (Act M)). l ++ k) c.gave (given_acts x s table (after (with_states x s table).serve (counting seat.start) c.taken) takes ∙ ap (λ v. acts (given x.serve v takes)) c.serves)
            ∙ sym (acts_append (seat.offered ++ n.server.waiting) (given x.serve n.server.server takes)) ∙ ap acts (sym (served_gives x seat.offered n));
        state =
            c.state ∙ sym (state_kept x s table stated (counting n.server.server) takes) ∙ ap (λ v. s.state (x.app v.server)) (after_acts x s table (counting n.server.server) takes)
            ∙ ap (λ v. s.state (x.app v)) (sym (served_server x n));
        rows = elim c.rows [
          | inl u ↦ inl (record { started = u.started; hand = u.hand; past = u.past; now = u.now; held = u.held; none = ap₂ (λ (l : List (Act M)) (k : List M). l ++ acts k) u.none (nothing u.held) })
          | inr r ↦ inr (record {
            front = r.front;
            last = r.last;
            now = r.now;
            moment = same_moment (with_states x s table) (counting seat.start) r.front r.last r.now _ _ (c.taken ++ acts takes) (c.taken ++ acts takes) (acts seat.accepted) (acts seat.accepted) held refl refl
                (Moments.takes (with_states x s table) (stated_law x s table stated law) (counting seat.start) ready r.front r.last r.now (c.taken ++ acts c.rest) c.taken (acts seat.accepted) r.moment (acts takes) (acts more, sym held));
            started = r.started;
            mails_last = r.mails_last;
            place = elim r.place [
              | inl q ↦ inl q
              | inr q ↦ inr (record {
                target = q.target;
                service = q.service;
                past = q.past;
                rested = q.rested;
                stage = staged_on table from seat.slave.registers.state c.rest more seat.side.halves.out.holding seat.side.halves.out.holding q.target r.now.frame a.hand r.now.told (λ e. (append_none takes more (sym split ∙ e)).1) (λ e. e) q.stage;
              })
            ];
          })
        ];
      }
    where
      n : Node M (Serving V M)
      n = seat.slave.node

      takes : List M
      takes = node_takes (serving x) n

      p : (rest : List M) × (seat.held ≡ (seat.taken ++ takes) ++ rest)
      p = taken_of_held (link_of (served_seat seat)) agrees

      more : List M
      more = p.0

      split : c.rest ≡ takes ++ more
      split = append_cancel seat.taken c.rest (takes ++ more) (sym c.held_is ∙ p.1 ∙ append_assoc seat.taken takes more)

      held : c.taken ++ acts c.rest ≡ (c.taken ++ acts takes) ++ acts more
      held = ap (λ l. c.taken ++ acts l) split ∙ ap (λ l. c.taken ++ l) (acts_append takes more) ∙ sym (append_assoc c.taken (acts takes) (acts more))

      nothing : seat.held ≡ [] → takes ≡ []
      nothing e = (append_none seat.taken takes (append_none (seat.taken ++ takes) more (sym p.1 ∙ e)).0).1

  -- A STEP OF THE PROCESSOR, whose registers change as they may
  pub carried_steps : (from : ℕ) (seat : Seat V M Q R) (a : Account Q R) (processor : Processor V) → ((state : ℕ) (v : V) → processor.tell state v ≡ s.tell state v) → processor.carry seat.slave.registers ≡ carry table seat.slave.registers →
      StateStep table from a.hand seat.slave.registers → x.ready seat.start ≡ true → SeatAgrees x (seat_steps x processor seat) → Carried x law s table from seat a → Carried x law s table from (seat_steps x processor seat) a
  carried_steps from seat a processor tells carries step ready agrees c =
      let r = processor.carry seat.slave.registers in
      let v = seat.slave.node.server in
      let slave : Slave V M = record { node = state_told processor r.state (node_look seat.slave.node); registers = r } in
      let shift : Shifts table from a.hand seat.slave.registers.state r.state = subst (λ q. Shifts table from a.hand seat.slave.registers.state q.state) (sym carries) (shifts table from a.hand seat.slave.registers step) in
      carried_serves from (record seat { slave = slave }) a ready agrees (carried_tells from seat a slave (λ i. record v { server = tells r.state v.server i }) ready c shift)

  -- AT THE END OF BRING-UP
  pub carried_new : (from : ℕ) (p : Planned V) → s.state (x.app p.server) ≡ p.registers.state → Carried x law s table from (new_seat p) (new_account {Q = Q} {R = R})
  carried_new from p state = record {
    taken = [];
    rest = [];
    taken_is = refl;
    held_is = refl;
    serves = refl;
    gave = refl;
    state = sym state;
    rows = inl (record { started = refl; hand = refl; past = refl; now = refl; held = refl; none = refl });
  }
