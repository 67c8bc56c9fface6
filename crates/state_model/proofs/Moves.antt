-- The ghost rows over a frame and over a step of the slave's processor: a drain ends, a service is closed, mails are heard and taken, and the
-- control word is taken where the AL state changes.
use Rattle.std.proofs.Common.{◌≡◌, inl, inr, ℕ, ◌==◌, Bool, true, false, if◌then◌else◌, Option, None, Some, option_map, List, [], ◌∷◌, ◌++◌, drop, length, refl, sym, ap, ap₂, ◌∙◌, subst, append-nil}
use Rattle.segment_model.specs.of_exchange_model.Prefix.{IsPrefixOf}
use Rattle.segment_model.specs.of_exchange_model.Exchange.{Exchange, IsLawful, after, given, plain}
use Rattle.segment_model.specs.of_exchange_model.Rows.{Row, row_heard, row_told, answer_after, left}
use Rattle.segment_model.specs.of_exchange_model.Laws.{Moment}
use Rattle.segment_model.proofs.of_exchange_model.Lists.{append_none, append_cancel}
use Rattle.segment_model.proofs.of_exchange_model.Words.{after-append, given-append, plain-append}
use Rattle.segment_model.proofs.of_exchange_model.Moments
use Rattle.segment_model.specs.of_link_model.Mails.{LinkMail}
use Rattle.segment_model.specs.of_link_model.Link.{Halves}
use Rattle.segment_model.specs.of_link_model.Frames
use Rattle.segment_model.specs.of_link_model.Frames.{Ask, node_meets}
use Rattle.segment_model.specs.of_link_model.Slave.{Node}
use Rattle.segment_model.proofs.of_link_model.Law.{accepted_of_offered}
use Rattle.segment_model.specs.Slaves.{Serving, Registers, Access, Datagram, grams, Slave, is_meant, registers_met, slave_meets, slave_after}
use Rattle.segment_model.specs.Record.{News}
use Rattle.segment_model.specs.Ends.{Outcome}
use Rattle.segment_model.specs.Seats.{Seat, link_of, newest, side_back, side_lost, seat_back}
use Rattle.segment_model.specs.Laws.{as_outcome}
use Rattle.segment_model.proofs.Sounds.{SeatAgrees}
use Rattle.segment_model.proofs.Rests.{all_taken}
use Rattle.segment_model.proofs.Written.{has_written, back_frees, losts_out}
use Rattle.segment_model.specs.Record
use Rattle.segment_model.proofs.Handed.{Facts, facts_of}
use Rattle.state_model.specs.States.{Table, Phase, Turn, shown}
use Rattle.state_model.specs.Promises.{state_behind}
use Rattle.state_model.specs.Stated.{Stated, IsStated, Act, Service, acts, act_emission, mails, ends_by, with_states, service_handed, service_ends}
use Rattle.state_model.proofs.Acts.{acts_append, acts_same, mails_append, all_acts, plain_acts, left_word}
use Rattle.state_model.proofs.StatedLaw.{stated_law}
use Rattle.state_model.specs.Accounts.{Account, Duty, Stage, account_by, turn_progress}
use Rattle.state_model.proofs.Served.{Served, goes_on, duty_of}
use Rattle.state_model.proofs.Stately.{state_over, state_over-push}
use Rattle.state_model.proofs.Ghosts.{GhostRow, counting, label_of, labels_of, Shows, Rested, RestedRow, StagedBy, Staged, StateNow, Rowed, Carried, starts_now, labels_append, other_rows, placed_rows}
use Rattle.state_model.proofs.Begins.{accepted_begin, same_moment}

-- WHAT A SLAVE'S FRAMES LEAVE

server_meets : {V M : Type 0} (n : Node M (Serving V M)) (ask : Ask M) → (node_meets n ask).server ≡ n.server
server_meets n (Ask.WriteMail m) = refl
server_meets n Ask.ReadMail = refl
server_meets n (Ask.WriteRequest bit) = refl
server_meets n Ask.ReadAcknowledge = refl
server_meets n Ask.Other = refl

-- no frame steps the server
pub server_after : {V M : Type 0} (station : ℕ) (s : Slave V M) (ds : List (Datagram M)) → (slave_after station s ds).node.server ≡ s.node.server
server_after station s [] = refl
server_after station s (d ∷ ds) = server_after station (slave_meets station s d) ds ∙ go (d.gram.station == station)
  where
    go : (b : Bool) → (if b then node_meets s.node d.gram.ask else s.node).server ≡ s.node.server
    go true = server_meets s.node d.gram.ask
    go false = refl

state_met : (r : Registers) (access : Access) → (registers_met r access).state ≡ r.state
state_met r (Access.SetStation station) = refl
state_met r (Access.SetFirst right) = refl
state_met r (Access.SetSecond right) = refl
state_met r (Access.SetControl target acknowledge) = refl
state_met r Access.ReadState = refl
state_met r Access.ReadFull = refl
state_met r Access.Elsewhere = refl

-- nor changes the AL state
pub state_after : {V M : Type 0} (station : ℕ) (s : Slave V M) (ds : List (Datagram M)) → (slave_after station s ds).registers.state ≡ s.registers.state
state_after station s [] = refl
state_after station s (d ∷ ds) = state_after station (slave_meets station s d) ds ∙ go (is_meant s.registers d.address)
  where
    go : (b : Bool) → (if b then registers_met s.registers d.access else s.registers).state ≡ s.registers.state
    go true = state_met s.registers d.access
    go false = refl

none_if : {X : Type 0} (b : Bool) (o : Option X) → o ≡ None → (if b then None else o) ≡ None
none_if true o e = refl
none_if false o e = e

-- an idle half stays idle
idle_back : {M : Type 0} (station : ℕ) (h : Halves M) (ds : List (Datagram M)) → h.out.holding ≡ None → (Frames.halves_after station h (grams ds)).out.holding ≡ None
idle_back station h ds e = back_frees station 0 h ds ∙ none_if (has_written (Record.back_news station 0 ds)) h.out.holding e

-- a stage where the half stays idle, and nothing more is held untaken
pub staged_on : {M : Type 0} (table : Table) (from state : ℕ) (rest more : List M) (holding now : Option (LinkMail M)) (target frame : ℕ) (hand : Option Duty) (told : List (Act M)) → (rest ≡ [] → more ≡ []) → (holding ≡ None → now ≡ None) →
    Staged table from state rest holding target frame hand told → Staged table from state more now target frame hand told
staged_on table from state rest more holding now target frame None told f g st = (f st.0, st.1)
staged_on {M} table from state rest more holding now target frame (Some duty) told f g st = (st.0, st.1, stage duty.stage st.2)
  where
    stage : (stage : Stage) → StagedBy table from state rest holding target stage told → StagedBy table from state more now target stage told
    stage Stage.Drains k = (k.0, k.1, (elim k.2 [ inl idle ↦ inl (g idle) | inr none ↦ inr (f none) ]))
    stage (Stage.Goes phase) k = (f k.0, k.1)

module _ {V A M Q R : Type 0} (x : Exchange V A M Q R) (law : IsLawful x) (s : Stated V A Q) (table : Table) (stated : IsStated x s) where
  -- another slave with this server and this AL state carries the same
  pub carried_slave : (from : ℕ) (seat : Seat V M Q R) (a : Account Q R) (slave : Slave V M) → slave.node.server ≡ seat.slave.node.server → slave.registers.state ≡ seat.slave.registers.state → Carried x law s table from seat a →
      Carried x law s table from (record seat { slave = slave }) a
  carried_slave from seat a slave e f c = record {
    taken = c.taken;
    rest = c.rest;
    taken_is = c.taken_is;
    held_is = c.held_is;
    serves = c.serves ∙ ap (λ v. v.server) (sym e);
    gave = c.gave ∙ ap (λ v. acts (seat.offered ++ v.waiting)) (sym e);
    state = f ∙ c.state ∙ ap (λ v. s.state (x.app v.server)) (sym e);
    rows = placed_rows x law s table from seat seat.side slave a c.taken c.rest refl refl (λ before g place. (elim place [
      | inl p ↦ inl p
      | inr p ↦ inr (subst (λ st. StateNow x law s table from st c.rest seat.side a.hand before g) (sym f) p)
    ])) c.rows;
  }

  -- THE STATE SERVICE IN HAND

  -- where one is in hand its row is the newest
  pub in_hand : (from : ℕ) (seat : Seat V M Q R) (a : Account Q R) (c : Carried x law s table from seat a) (duty : Duty) → a.hand ≡ Some duty →
      (r : Rowed x law s table from seat a c.taken c.rest) × StateNow x law s table from seat.slave.registers.state c.rest seat.side a.hand (r.front ++ r.last) r.now
  in_hand from seat a c duty e = elim c.rows [
    | inl u ↦ absurd (let bad : None ≡ Some duty = sym u.hand ∙ e in cc)
    | inr r ↦ elim r.place [
      | inl p ↦ absurd (let bad : None ≡ Some duty = sym p.free ∙ e in cc)
      | inr p ↦ (r, p)
    ]
  ]

  -- it is at another stage
  restaged : (from from' : ℕ) (seat : Seat V M Q R) (a b : Account Q R) (c : Carried x law s table from seat a) (r : Rowed x law s table from seat a c.taken c.rest)
      (n : StateNow x law s table from seat.slave.registers.state c.rest seat.side a.hand (r.front ++ r.last) r.now) → b.started ≡ a.started →
      Staged table from' seat.slave.registers.state c.rest seat.side.halves.out.holding n.target r.now.frame b.hand r.now.told → Carried x law s table from' seat b
  restaged from from' seat a b c r n e stage = other_rows x law s table from from' seat seat.side seat.accepted a b c (inr (record {
    front = r.front;
    last = r.last;
    now = r.now;
    moment = r.moment;
    started = r.started ∙ sym e;
    mails_last = r.mails_last;
    place = inr (record { target = n.target; service = n.service; past = n.past; rested = n.rested; stage = stage });
  }))

  -- its control word is told and taken: what the server is behind it, and what it tells
  pub record Worded (from : ℕ) (seat : Seat V M Q R) (a : Account Q R) (c : Carried x law s table from seat a) (r : Rowed x law s table from seat a c.taken c.rest) (target : ℕ) : Type 0 where
    pub server : (after (with_states x s table).serve (counting seat.start) (c.taken ++ Act.Word target ∷ [])).server ≡ s.tell (state_behind table seat.slave.registers.state target) seat.slave.node.server.server
    pub gave : given (with_states x s table).serve (counting seat.start) (c.taken ++ Act.Word target ∷ []) ≡ acts (seat.offered ++ seat.slave.node.server.waiting)
    pub mails : mails (c.taken ++ Act.Word target ∷ []) ≡ seat.taken
    pub told : r.now.told ++ Act.Word target ∷ [] ≡ Act.Word target ∷ []
    pub moment : Moment (with_states x s table) (counting seat.start) r.front r.last (row_told (Act.Word target) r.now) ((c.taken ++ Act.Word target ∷ []) ++ acts c.rest) (c.taken ++ Act.Word target ∷ []) (acts seat.accepted)

  pub word_taken : (from : ℕ) (seat : Seat V M Q R) (a : Account Q R) → x.ready seat.start ≡ true → (c : Carried x law s table from seat a) (r : Rowed x law s table from seat a c.taken c.rest)
      (n : StateNow x law s table from seat.slave.registers.state c.rest seat.side a.hand (r.front ++ r.last) r.now) → c.rest ≡ [] → r.now.told ≡ [] → Worded from seat a c r n.target
  word_taken from seat a ready c r n none told =
      let y = with_states x s table in
      let word = Act.Word n.target in
      let at = Moments.holds y (stated_law x s table stated law) (counting seat.start) ready r.front r.last r.now (c.taken ++ acts c.rest) c.taken (acts seat.accepted) r.moment word [] (left_word x s table r.now n.target n.service told) in
      let held : (c.taken ++ acts c.rest) ++ word ∷ [] ≡ (c.taken ++ word ∷ []) ++ acts c.rest =
      ap (λ l. (c.taken ++ acts l) ++ word ∷ []) none ∙ ap (λ l. l ++ word ∷ []) (append-nil c.taken) ∙ sym (append-nil (c.taken ++ word ∷ [])) ∙ ap (λ l. (c.taken ++ word ∷ []) ++ acts l) (sym none) in
      let told_at = same_moment y (counting seat.start) r.front r.last (row_told word r.now) _ _ c.taken c.taken (acts seat.accepted) (acts seat.accepted) held refl refl at in
      record {
        server =
            ap (λ v. v.server) (after-append y.serve (counting seat.start) c.taken (word ∷ []))
            ∙ ap (λ v. s.tell (state_behind table (s.state (x.app v)) n.target) v) c.serves
            ∙ ap (λ st. s.tell (state_behind table st n.target) seat.slave.node.server.server) (sym c.state);
        gave = given-append y.serve (counting seat.start) c.taken (word ∷ []) ∙ append-nil (given y.serve (counting seat.start) c.taken) ∙ c.gave;
        mails = mails_append c.taken (word ∷ []) ∙ append-nil (mails c.taken) ∙ c.taken_is;
        told = ap (λ l. l ++ word ∷ []) told;
        moment = Moments.takes y (stated_law x s table stated law) (counting seat.start) ready r.front r.last (row_told word r.now) _ c.taken (acts seat.accepted) told_at (word ∷ []) (acts c.rest, refl);
      }

  -- so it carries on with that word, beside a slave whose server was told it
  pub worded : (from from' : ℕ) (seat : Seat V M Q R) (a b : Account Q R) (slave : Slave V M) (c : Carried x law s table from seat a) (r : Rowed x law s table from seat a c.taken c.rest)
      (n : StateNow x law s table from seat.slave.registers.state c.rest seat.side a.hand (r.front ++ r.last) r.now) → Worded from seat a c r n.target → b.started ≡ a.started →
      s.tell (state_behind table seat.slave.registers.state n.target) seat.slave.node.server.server ≡ slave.node.server.server → slave.node.server.waiting ≡ seat.slave.node.server.waiting →
      slave.registers.state ≡ s.state (x.app slave.node.server.server) →
      Staged table from' slave.registers.state c.rest seat.side.halves.out.holding n.target r.now.frame b.hand (r.now.told ++ Act.Word n.target ∷ []) → Carried x law s table from' (record seat { slave = slave }) b
  worded from from' seat a b slave c r n w e told waits state stage = record {
    taken = c.taken ++ Act.Word n.target ∷ [];
    rest = c.rest;
    taken_is = w.mails;
    held_is = c.held_is;
    serves = w.server ∙ told;
    gave = w.gave ∙ ap (λ l. acts (seat.offered ++ l)) (sym waits);
    state = state;
    rows = inr (record {
      front = r.front;
      last = r.last;
      now = row_told (Act.Word n.target) r.now;
      moment = w.moment;
      started = starts_now (r.front ++ r.last) (row_told (Act.Word n.target) r.now) r.now refl ∙ r.started ∙ sym e;
      mails_last = r.mails_last;
      place = inr (record { target = n.target; service = n.service; past = n.past; rested = n.rested; stage = stage });
    });
  }

  -- behind a drain all mails held are taken
  drain_over : (from : ℕ) (seat : Seat V M Q R) (rest : List M) (target frame : ℕ) (told : List (Act M)) → SeatAgrees x seat → seat.held ≡ seat.taken ++ rest → seat.slave.node.out.box ≡ None →
      StagedBy table from seat.slave.registers.state rest seat.side.halves.out.holding target Stage.Drains told → rest ≡ []
  drain_over from seat rest target frame told agrees held box stage = elim stage.2 [
    | inl idle ↦ append_cancel seat.taken rest [] (sym held ∙ sym (all_taken (link_of seat) agrees box idle) ∙ sym (append-nil seat.taken))
    | inr none ↦ none
  ]

  -- it is closed: where its word was not taken yet, the AL state is the one behind it
  closed : (from from' : ℕ) (seat : Seat V M Q R) (a b : Account Q R) → x.ready seat.start ≡ true → (c : Carried x law s table from seat a) (r : Rowed x law s table from seat a c.taken c.rest)
      (n : StateNow x law s table from seat.slave.registers.state c.rest seat.side a.hand (r.front ++ r.last) r.now) → b.started ≡ a.started → b.hand ≡ None →
      (phase : Phase) → StagedBy table from seat.slave.registers.state c.rest seat.side.halves.out.holding n.target (Stage.Goes phase) r.now.told → seat.slave.registers.state ≡ state_behind table from n.target → Carried x law s table from' seat b
  closed from from' seat a b ready c r n e f phase stage stands = elim stage.1 [
    | inl wait ↦
        let w = word_taken from seat a ready c r n stage.0 wait.0 in
        let still : state_behind table seat.slave.registers.state n.target ≡ s.state (x.app seat.slave.node.server.server) = ap (λ st. state_behind table st n.target) wait.1 ∙ sym stands ∙ c.state in
        worded from from' seat a b seat.slave c r n w e (ap (λ st. s.tell st seat.slave.node.server.server) still ∙ stated.same seat.slave.node.server.server) refl c.state
        (subst (λ h. Staged table from' seat.slave.registers.state c.rest seat.side.halves.out.holding n.target r.now.frame h (r.now.told ++ Act.Word n.target ∷ [])) (sym f) (stage.0, w.told))
    | inr worded ↦ restaged from from' seat a b c r n e
        (subst (λ h. Staged table from' seat.slave.registers.state c.rest seat.side.halves.out.holding n.target r.now.frame h r.now.told) (sym f) (stage.0, worded.0))
  ]

  -- THE ACCOUNT behind a frame, at the seat before it; `al` is the AL state at the end of bring-up
  pub carried_account : (al : ℕ) (seat : Seat V M Q R) (a b : Account Q R) (n : Registers) (frame : ℕ) (ss : List (News M)) → x.ready seat.start ≡ true → SeatAgrees x seat →
      Served seat.slave.registers n seat.slave.node.out.box frame a b ss → (b.hand ≡ None → seat.slave.registers.state ≡ state_over table al b.over) →
      Carried x law s table (state_over table al a.over) seat a → Carried x law s table (state_over table al b.over) seat b
  carried_account al seat a b n frame ss ready agrees served stands c = go served
    where
      from : ℕ
      from = state_over table al a.over

      stage_of : (target begun : ℕ) (stage : Stage) → a ≡ goes_on a target begun stage → (r : Rowed x law s table from seat a c.taken c.rest) → (p : StateNow x law s table from seat.slave.registers.state c.rest seat.side a.hand (r.front ++ r.last) r.now) →
          Staged table from seat.slave.registers.state c.rest seat.side.halves.out.holding p.target r.now.frame (Some (duty_of target begun stage)) r.now.told
      stage_of target begun stage e r p = subst (λ h. Staged table from seat.slave.registers.state c.rest seat.side.halves.out.holding p.target r.now.frame h r.now.told) (ap (λ (a : Account Q R). a.hand) e) p.stage

      to_stage : (target begun : ℕ) (stage next : Stage) → a ≡ goes_on a target begun stage →
          ((p : ℕ) (told : List (Act M)) → StagedBy table from seat.slave.registers.state c.rest seat.side.halves.out.holding p stage told → StagedBy table from seat.slave.registers.state c.rest seat.side.halves.out.holding p next told) →
          Carried x law s table from seat (goes_on a target begun next)
      to_stage target begun stage next e change =
          let k = in_hand from seat a c (duty_of target begun stage) (ap (λ (a : Account Q R). a.hand) e) in
          let st = stage_of target begun stage e k.0 k.1 in
          restaged from from seat a (goes_on a target begun next) c k.0 k.1 refl (st.0, st.1, change k.1.target k.0.now.told st.2)

      answered : (target begun : ℕ) (phase : Phase) → a ≡ goes_on a target begun (Stage.Goes phase) → (turn : Turn R) → b ≡ account_by frame a (duty_of target begun (Stage.Goes phase)) (turn_progress turn) → Carried x law s table (state_over table al b.over) seat b
      answered target begun phase e (Turn.Goes next) f =
          subst (λ b. Carried x law s table (state_over table al b.over) seat b) (sym f) (to_stage target begun (Stage.Goes phase) (Stage.Goes next) e (λ p told h. h))
      answered target begun phase e (Turn.Ends answer) f =
          let hand = ap (λ (a : Account Q R). a.hand) e in
          let k = in_hand from seat a c (duty_of target begun (Stage.Goes phase)) hand in
          let st = stage_of target begun (Stage.Goes phase) e k.0 k.1 in
          let over : state_over table al b.over ≡ state_behind table from target = ap (λ (b : Account Q R). state_over table al b.over) f ∙ state_over-push table al a.over _ in
          closed from (state_over table al b.over) seat a b ready c k.0 k.1 (ap (λ (b : Account Q R). b.started) f) (ap (λ (b : Account Q R). b.hand) f) phase st.2
          (stands (ap (λ (b : Account Q R). b.hand) f) ∙ over ∙ ap (state_behind table from) st.0)

      go : Served seat.slave.registers n seat.slave.node.out.box frame a b ss → Carried x law s table (state_over table al b.over) seat b
      go (Served.stays e f g) = subst (λ b. Carried x law s table (state_over table al b.over) seat b) (sym f) c
      go (Served.drained target begun is box e f g) =
          subst (λ b. Carried x law s table (state_over table al b.over) seat b) (sym f)
          (to_stage target begun Stage.Drains (Stage.Goes Phase.Ask) is (λ p told h. (drain_over from seat c.rest p begun told agrees c.held_is box h, inl (h.0, h.1))))
      go (Served.wrote target begun phase is writes e f g) =
          subst (λ b. Carried x law s table (state_over table al b.over) seat b) (sym f) (to_stage target begun (Stage.Goes phase) _ is (λ p told h. h))
      go (Served.looked target begun phase is reads e f g) = answered target begun phase is (shown target phase seat.slave.registers.state seat.slave.registers.refused) f

  -- MAILS ARE HEARD

  answer_shown : (frame : ℕ) (answer : Option (R × ℕ)) (found : Option R) → answer_after frame (as_outcome answer) (option_map (λ r. Outcome.Replied r) found) ≡ as_outcome (answer_after frame answer found)
  answer_shown frame (Some answer) found = refl
  answer_shown frame None None = refl
  answer_shown frame None (Some r) = refl

  shows_heard : (frame : ℕ) (ms : List M) (g : GhostRow M Q R) (r : Row M Q R) → Shows g r → Shows (row_heard (with_states x s table).speech frame (acts ms) g) (row_heard x.speech frame ms r)
  shows_heard frame ms g r h =
      let all : g.heard ++ acts ms ≡ acts (r.heard ++ ms) = ap (λ l. l ++ acts ms) h.heard ∙ sym (acts_append r.heard ms) in
      let found : service_ends x.speech g.service (plain (act_emission x.speech.emission) (g.heard ++ acts ms)) ≡ option_map (λ r. Outcome.Replied r) (x.speech.ends r.service (plain x.speech.emission (r.heard ++ ms))) =
      ap₂ (λ (q : Service Q) (l : List (Act M)). service_ends x.speech q l) h.service (ap (plain (act_emission x.speech.emission)) all ∙ plain_acts x.speech.emission (r.heard ++ ms))
      ∙ ap (λ l. ends_by x.speech r.service l) (all_acts (plain x.speech.emission (r.heard ++ ms))) in
      record {
        service = h.service;
        frame = h.frame;
        told = h.told;
        heard = all;
        answer = ap₂ (λ (a : Option (Outcome R × ℕ)) (f : Option (Outcome R)). answer_after frame a f) h.answer found ∙ answer_shown frame r.answer (x.speech.ends r.service (plain x.speech.emission (r.heard ++ ms)));
      }

  stays_unanswered : (frame : ℕ) (answer : Option (R × ℕ)) (found : Option R) → found ≡ None → answer_after frame answer found ≡ answer
  stays_unanswered frame (Some answer) found e = refl
  stays_unanswered frame None found e = ap (answer_after frame None) e

  -- a row that rests hears emissions alone
  rested_heard : (frame : ℕ) (ms : List M) (r : Row M Q R) → plain x.speech.emission ms ≡ [] → RestedRow x law r → RestedRow x law (row_heard x.speech frame ms r) × (label_of (row_heard x.speech frame ms r) ≡ label_of r)
  rested_heard frame ms r e k =
      let same : plain x.speech.emission (r.heard ++ ms) ≡ plain x.speech.emission r.heard = plain-append x.speech.emission r.heard ms ∙ ap (λ l. plain x.speech.emission r.heard ++ l) e ∙ append-nil (plain x.speech.emission r.heard) in
      let found = x.speech.ends r.service (plain x.speech.emission (r.heard ++ ms)) in
      let nothing : left x.speech (row_heard x.speech frame ms r) ≡ [] = ap (λ hs. drop (length r.told) (x.speech.planned r.service hs)) same ∙ k.left in
      elim k.done [
        | inl b ↦
            let answer : answer_after frame r.answer found ≡ Some b.0.0 = ap (λ o. answer_after frame o found) b.0.1 in
            (record { left = nothing; done = inl ((b.0.0, answer), b.1) }, ap (λ o. record { service = r.service; frame = r.frame; answer = as_outcome o }) (answer ∙ sym b.0.1))
        | inr h ↦
            let f : Facts x law r = h.1 in
            let none = stays_unanswered frame r.answer found (law.unanswered r.service (plain x.speech.emission (r.heard ++ ms)) h.0) in
            (record { left = nothing; done = inr (h.0, record { silent = same ∙ f.silent; mine = f.mine; some = f.some; unanswered = none ∙ f.unanswered }) }, ap (λ o. record { service = r.service; frame = r.frame; answer = as_outcome o }) none)
      ]

  rests_heard : (frame : ℕ) (ms : List M) (past : List (Row M Q R)) (now : Option (Row M Q R)) → plain x.speech.emission ms ≡ [] → Rested x law past now →
      (let more = option_map (λ r. row_heard x.speech frame ms r) now in Rested x law past more × (labels_of (past ++ newest more) ≡ labels_of (past ++ newest now)))
  rests_heard frame ms past None e k = (k, refl)
  rests_heard frame ms past (Some r) e k =
      let h = rested_heard frame ms r e k in
      (h.0, labels_append past (row_heard x.speech frame ms r ∷ []) ∙ ap (λ l. labels_of past ++ l ∷ []) h.1 ∙ sym (labels_append past (r ∷ [])))

  -- while a state service is the newest no reply is heard
  quiet : (v : V) → x.ready v ≡ true → (front last : List (GhostRow M Q R)) (g : GhostRow M Q R) (held taken accepted : List (Act M)) (target : ℕ) (ms : List M) (before : List (Act M)) → g.service ≡ Service.State target → g.heard ≡ before ++ acts ms →
      Moment (with_states x s table) (counting v) front last g held taken accepted → plain x.speech.emission ms ≡ []
  quiet v ready front last g held taken accepted target ms before service heard at =
      let y = with_states x s table in
      let f = facts_of y (stated_law x s table stated law) (counting v) ready (front ++ last) (Some g) held taken accepted (record { front = front; last = last; split = refl; moment = at }) (ap (service_handed x.speech) service) in
      let none = sym (plain-append (act_emission x.speech.emission) before (acts ms)) ∙ ap (plain (act_emission x.speech.emission)) (sym heard) ∙ f.silent in
      acts_same (plain x.speech.emission ms) [] (sym (plain_acts x.speech.emission ms) ∙ (append_none _ _ none).1)

  pub carried_hears : (from : ℕ) (seat : Seat V M Q R) (a : Account Q R) (frame : ℕ) (back : List (Datagram M)) → x.ready seat.start ≡ true →
      (let t = record seat { side = side_back x.speech frame seat.station back seat.side; accepted = seat.accepted ++ Frames.all_accepted seat.station seat.side.halves (grams back) } in
      SeatAgrees x t → Carried x law s table from seat a → Carried x law s table from t a)
  carried_hears from seat a frame back ready agrees c =
      other_rows x law s table from from seat (side_back x.speech frame seat.station back seat.side) (seat.accepted ++ ms) a a c (elim c.rows [
        | inl u ↦ inl (record { started = u.started; hand = u.hand; past = u.past; now = ap (option_map (λ r. row_heard x.speech frame ms r)) u.now; held = u.held; none = u.none })
        | inr r ↦ inr (record {
          front = r.front;
          last = r.last;
          now = row_heard (with_states x s table).speech frame (acts ms) r.now;
          moment = heard_at r;
          started = starts_now (r.front ++ r.last) (row_heard (with_states x s table).speech frame (acts ms) r.now) r.now refl ∙ r.started;
          mails_last = r.mails_last;
          place = elim r.place [
            | inl p ↦ inl (record { row = row_heard x.speech frame ms p.row; is = ap (option_map (λ r. row_heard x.speech frame ms r)) p.is; shows = shows_heard frame ms r.now p.row p.shows; past = p.past; free = p.free })
            | inr p ↦
                let silent = quiet seat.start ready r.front r.last (row_heard (with_states x s table).speech frame (acts ms) r.now) (c.taken ++ acts c.rest) c.taken (acts (seat.accepted ++ ms)) p.target ms r.now.heard p.service refl (heard_at r) in
                let k = rests_heard frame ms seat.side.past seat.side.now silent p.rested in
                inr (record {
                  target = p.target;
                  service = p.service;
                  past = p.past ∙ sym k.1;
                  rested = k.0;
                  stage = staged_on table from seat.slave.registers.state c.rest c.rest seat.side.halves.out.holding _ p.target r.now.frame a.hand r.now.told (λ e. e) (idle_back seat.station seat.side.halves back) p.stage;
                })
          ];
        })
      ])
    where
      ms : List M
      ms = Frames.all_accepted seat.station seat.side.halves (grams back)

      given_more : IsPrefixOf (acts seat.accepted ++ acts ms) (given (with_states x s table).serve (counting seat.start) c.taken)
      given_more = subst (λ l. IsPrefixOf l (given (with_states x s table).serve (counting seat.start) c.taken)) (acts_append seat.accepted ms)
          (accepted_begin (seat.accepted ++ ms) seat.offered seat.slave.node.server.waiting _ c.gave
          (accepted_of_offered (link_of (record seat { side = side_back x.speech frame seat.station back seat.side; accepted = seat.accepted ++ ms })) agrees))

      heard_at : (r : Rowed x law s table from seat a c.taken c.rest) → Moment (with_states x s table) (counting seat.start) r.front r.last (row_heard (with_states x s table).speech frame (acts ms) r.now) (c.taken ++ acts c.rest) c.taken (acts (seat.accepted ++ ms))
      heard_at r = same_moment (with_states x s table) (counting seat.start) r.front r.last (row_heard (with_states x s table).speech frame (acts ms) r.now) _ _ c.taken c.taken _ _ refl refl (sym (acts_append seat.accepted ms))
          (Moments.hears (with_states x s table) (stated_law x s table stated law) (counting seat.start) ready r.front r.last r.now (c.taken ++ acts c.rest) c.taken (acts seat.accepted) r.moment (acts ms) frame given_more)

  -- A FRAME THAT CAME BACK
  pub carried_back : (al : ℕ) (seat : Seat V M Q R) (a b : Account Q R) (n : Registers) (frame : ℕ) (ss : List (News M)) (ds back : List (Datagram M)) → x.ready seat.start ≡ true → SeatAgrees x seat → SeatAgrees x (seat_back x frame seat ds back) →
      Served seat.slave.registers n seat.slave.node.out.box frame a b ss → (b.hand ≡ None → (slave_after seat.station seat.slave ds).registers.state ≡ state_over table al b.over) →
      Carried x law s table (state_over table al a.over) seat a → Carried x law s table (state_over table al b.over) (seat_back x frame seat ds back) b
  carried_back al seat a b n frame ss ds back ready agrees behind served stands c =
      let slave = slave_after seat.station seat.slave ds in
      let same = state_after seat.station seat.slave ds in
      let k = carried_account al seat a b n frame ss ready agrees served (λ e. sym same ∙ stands e) c in
      carried_hears (state_over table al b.over) (record seat { slave = slave }) b frame back ready behind (carried_slave (state_over table al b.over) seat b slave (server_after seat.station seat.slave ds) same k)

  -- A LOST FRAME, that the slave missed
  pub carried_missed : (from : ℕ) (seat : Seat V M Q R) (a : Account Q R) (sent : List (Datagram M)) → Carried x law s table from seat a → Carried x law s table from (record seat { side = side_lost seat.station sent seat.side }) a
  carried_missed from seat a sent c = other_rows x law s table from from seat (side_lost seat.station sent seat.side) seat.accepted a a c
      (placed_rows x law s table from seat (side_lost seat.station sent seat.side) seat.slave a c.taken c.rest refl refl (λ before g place. (elim place [
        | inl p ↦ inl (record { row = p.row; is = p.is; shows = p.shows; past = p.past; free = p.free })
        | inr p ↦ inr (record {
          target = p.target;
          service = p.service;
          past = p.past;
          rested = p.rested;
          stage = staged_on table from seat.slave.registers.state c.rest c.rest seat.side.halves.out.holding _ p.target g.frame a.hand g.told (λ e. e)
              (λ e. ap (λ o. o.holding) (losts_out seat.station seat.side.halves (grams sent)) ∙ e) p.stage;
        })
      ])) c.rows)

  -- or met
  pub carried_met : (from : ℕ) (seat : Seat V M Q R) (a : Account Q R) (sent ds : List (Datagram M)) → Carried x law s table from seat a → Carried x law s table from (record seat { side = side_lost seat.station sent seat.side; slave = slave_after seat.station seat.slave ds }) a
  carried_met from seat a sent ds c =
      let slave = slave_after seat.station seat.slave ds in
      carried_missed from (record seat { slave = slave }) a sent (carried_slave from seat a slave (server_after seat.station seat.slave ds) (state_after seat.station seat.slave ds) c)
