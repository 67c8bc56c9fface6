-- The newest row of a slave with no state service in hand.
use Rattle.std.proofs.Common.{◌≡◌, inl, inr, ℕ, ◌&&◌, ◌||◌, Bool, true, false, not, is_none, is_some, Option, Some, None, option_map, List, [], ◌∷◌, ◌++◌, length, nat_lt, refl, sym, ap, ◌∙◌, subst, append-nil, arith, if◌then◌else◌}
use Rattle.protocol_models.specs.of_exchange_model.Exchange.{Exchange, IsLawful, given, plain}
use Rattle.protocol_models.specs.of_exchange_model.Rows.{Row, answer_after, ends_unheard, left}
use Rattle.protocol_models.proofs.of_exchange_model.Lists.{append_cancel, append_none}
use Rattle.link_mails.specs.of_link_model.Mails.{news, seen}
use Rattle.link_mails.specs.of_link_model.Master.{InState}
use Rattle.slave_model.specs.Waits.{NeverWaits}
use Rattle.slave_model.proofs.States.{states_never}
use Rattle.life_model.specs.of_segment_model.Ends.{Outcome}
use Rattle.life_model.specs.of_segment_model.Laws.{IsSettled, as_outcome}
use Rattle.life_model.specs.of_segment_model.Record.{Frame}
use Rattle.life_model.specs.of_segment_model.Seats.{Seat, is_over, is_none_left, link_of}
use Rattle.life_model.proofs.of_segment_model.Rests.{all_taken, all_offered}
use Rattle.life_model.specs.of_state_model.Stated.{Stated, IsStated, Act, Service, Counting, acts, all_mails, ends_by, planned_by, with_states, service_handed}
use Rattle.life_model.proofs.of_state_model.Acts.{acts_length, acts_same, all_acts, left_mails, plain_acts, plain_given_acts}
use Rattle.life_model.proofs.of_state_model.StatedLaw.{stated_law}
use Rattle.life_model.specs.of_state_model.Promises.{IsTable}
use Rattle.life_model.specs.of_state_model.States.{Table}
use Rattle.life_model.specs.of_state_model.Accounts.{Account, Started, is_free, is_acknowledged}
use Rattle.life_model.proofs.of_state_model.Ghosts.{MailsNow, Rested, RestedRow, Rowed, Staged, StateNow, counting, starts_append, starts_of}
use Rattle.life_model.proofs.of_state_model.Newest.{Holds}
use Rattle.life_model.proofs.of_state_model.Stately.{state_over}
use Rattle.slave_model.specs.Moments.{IsMailsLast, WasHeard}
use Rattle.slave_model.proofs.Answers.{acknowledges, answered_all, before, on, replied, states_last, whole_heard}
use Rattle.slave_model.proofs.Unsent.{Unsent}

module _ {V A M Q R : Type 0} (x : Exchange V A M Q R) (law : IsLawful x) (s : Stated V A Q) (stated : IsStated x s) (table : Table) (more : M → Bool) (start : ℕ) (is : IsTable table start)
    (fs : List (Frame M)) (seat : Seat V M Q R) (a : Account Q R) (h : Holds x law s stated table more start is fs seat a) (unsent : Unsent x seat) (idle : a.hand ≡ None) where
  abbrev both : Exchange (Counting V) (A × ℕ) (Act M) (Service Q) (Outcome R)
  both = with_states x s table

  abbrev held : List (Act M)
  held = h.carried.taken ++ acts h.carried.rest

  abbrev Rows : Type 0
  Rows = Rowed x law s table (state_over table start a.over) seat a h.carried.taken h.carried.rest

  abbrev ByState : Rows → Type 0
  ByState g = StateNow x law s table (state_over table start a.over) seat.slave.registers.state h.carried.rest seat.side a.hand (g.front ++ g.last) g.now

  acts_none : (ms : List M) → acts ms ≡ [] → ms ≡ []
  acts_none ms e = acts_same ms [] e

  -- ---- NOTHING HELD BESIDE WHAT WAS TAKEN: the mail that is held was sent
  sent_by : (f : Bool) → seat.side.fresh ≡ f → h.carried.rest ≡ [] → f ≡ false
  sent_by false e none = refl
  sent_by true e none =
      let n = unsent e in
      let out = h.agrees.out in
      let same : seat.taken ++ [] ≡ seat.taken ++ (news seat.slave.node.out.last_taken seat.slave.node.out.box ++ news (seen seat.slave.node.out.last_taken seat.slave.node.out.box) seat.side.halves.out.holding) =
      sym (h.carried.held_is ∙ ap (λ l. seat.taken ++ l) none) ∙ out.stream in
      let parts = append_none (news seat.slave.node.out.last_taken seat.slave.node.out.box) (news (seen seat.slave.node.out.last_taken seat.slave.node.out.box) seat.side.halves.out.holding) (sym (append_cancel seat.taken [] _ same)) in
      absurd (let no : n.mail.body ∷ [] ≡ [] = sym n.new ∙ parts.1 in cc)

  -- by a state service that is over
  state_rest : (g : Rows) → ByState g → h.carried.rest ≡ []
  state_rest g n = (subst (λ z. Staged table (state_over table start a.over) seat.slave.registers.state h.carried.rest seat.side.halves.out.holding n.target g.now.frame z g.now.told) idle n.stage).0

  state_row : (g : Rows) → ByState g → (r : Row M Q R) → seat.side.now ≡ Some r → RestedRow x law r
  state_row g n r now = subst (Rested x law seat.side.past) now n.rested

  -- ---- AN ANSWERED ROW
  pub record Known (r : Row M Q R) : Type 0 where
    pub left : left x.speech r ≡ []
    pub sent : seat.side.fresh ≡ false

  -- a row by mails ends unheard as it does without states
  same_unheard : (g : Rows) (r : Row M Q R) → g.now.service ≡ Service.Mails r.service → g.now.heard ≡ acts r.heard → g.now.answer ≡ as_outcome r.answer →
      ends_unheard both.speech (acknowledges s.acknowledged) g.now ≡ ends_unheard x.speech s.acknowledged r
  same_unheard g r service heard answer =
      let replies : plain both.speech.emission g.now.heard ≡ acts (plain x.speech.emission r.heard) = ap (plain both.speech.emission) heard ∙ plain_acts x.speech.emission r.heard in
      let sends : both.speech.planned g.now.service (plain both.speech.emission g.now.heard) ≡ acts (x.speech.planned r.service (plain x.speech.emission r.heard)) =
      ap (λ (q : Service Q). both.speech.planned q (plain both.speech.emission g.now.heard)) service ∙ ap (λ l. planned_by x.speech r.service (all_mails l)) replies
      ∙ ap (planned_by x.speech r.service) (all_acts (plain x.speech.emission r.heard)) in
      (λ i. acknowledges s.acknowledged (service i) && (is_none (answer i) || nat_lt (length (replies i)) (length (sends i))))
      ∙ (λ i. s.acknowledged r.service && (is_none_as r.answer i || nat_lt (acts_length (plain x.speech.emission r.heard) i) (acts_length (x.speech.planned r.service (plain x.speech.emission r.heard)) i)))
    where
      is_none_as : (o : Option (R × ℕ)) → is_none (as_outcome o) ≡ is_none o
      is_none_as None = refl
      is_none_as (Some a) = refl

  by_mails : (g : Rows) → MailsNow seat.side a.hand (g.front ++ g.last) g.now → (r : Row M Q R) → seat.side.now ≡ Some r → (answer : R × ℕ) → r.answer ≡ Some answer → ends_unheard x.speech s.acknowledged r ≡ false → Known r
  by_mails g m r now answer said quiet =
      let same : m.row ≡ r = (let some : Some m.row ≡ Some r = sym m.is ∙ now in cc) in
      let shows = subst (λ z. g.now.service ≡ Service.Mails z.service) same m.shows.service in
      let told = ap (λ (z : Row M Q R). z.told) same in
      let all = answered_all both (stated_law x s table stated law) (counting seat.start) h.ready g.front g.last g.now held h.carried.taken (acts seat.accepted) g.moment (acknowledges s.acknowledged) (states_last x s table stated)
      (Outcome.Replied answer.0, answer.1) (m.shows.answer ∙ ap (λ (z : Row M Q R). as_outcome z.answer) same ∙ ap as_outcome said) (same_unheard g r shows (m.shows.heard ∙ ap (λ (z : Row M Q R). acts z.heard) same) (m.shows.answer ∙ ap (λ (z : Row M Q R). as_outcome z.answer) same) ∙ quiet) in
      let rest : h.carried.rest ≡ [] = acts_none h.carried.rest (sym (append_cancel h.carried.taken [] (acts h.carried.rest) (append-nil h.carried.taken ∙ all.0))) in
      let mine : left both.speech g.now ≡ acts (left x.speech r) =
      left_mails x s table g.now r shows (m.shows.told ∙ ap acts told) (m.shows.heard ∙ ap (λ (z : Row M Q R). acts z.heard) same) in
      record { left = acts_none (left x.speech r) (sym mine ∙ all.1); sent = sent_by seat.side.fresh refl rest }

  pub answered_known : (r : Row M Q R) → seat.side.now ≡ Some r → (answer : R × ℕ) → r.answer ≡ Some answer → ends_unheard x.speech s.acknowledged r ≡ false → Known r
  answered_known r now answer said quiet = elim h.carried.rows [
    | inl u ↦ absurd (let no : Some r ≡ None = sym now ∙ u.now in cc)
    | inr g ↦ elim g.place [
      | inl m ↦ by_mails g m r now answer said quiet
      | inr n ↦ record { left = (state_row g n r now).left; sent = sent_by seat.side.fresh refl (state_rest g n) }
    ]
  ]

  -- ---- A SETTLED SLAVE with nothing held and nothing in doubt
  module _ (never : NeverWaits x) (settled : IsSettled seat.slave) (idles : seat.side.halves.out.holding ≡ None) (clear : seat.side.halves.inn.state ≡ InState.Clear) where
    nothing_held : h.carried.rest ≡ []
    nothing_held = append_cancel seat.taken h.carried.rest [] (sym h.carried.held_is ∙ sym (all_taken (link_of seat) h.agrees settled.first idles) ∙ sym (append-nil seat.taken))

    heard : acts seat.accepted ≡ given both.serve (counting seat.start) h.carried.taken
    heard =
        ap acts (sym (all_offered (link_of seat) h.agrees clear settled.second settled.withdrawn) ∙ sym (append-nil seat.offered) ∙ ap (λ l. seat.offered ++ l) (sym settled.waiting))
        ∙ sym h.carried.gave

    sent : seat.side.fresh ≡ false
    sent = sent_by seat.side.fresh refl nothing_held

    some_answer : (answer : Option (R × ℕ)) (found : Option R) → is_some found ≡ true → answer_after 0 answer found ≡ answer → is_some answer ≡ true
    some_answer (Some b) found e f = refl
    some_answer None (Some r) e f = absurd (let no : Some (r, 0) ≡ None = f in cc)
    some_answer None None e f = absurd (cc)

    mapped_some : (found : Option R) (o : Outcome R) → option_map (λ r. Outcome.Replied r) found ≡ Some o → is_some found ≡ true
    mapped_some (Some r) o e = refl
    mapped_some None o e = absurd (cc)

    over_by : (r : Row M Q R) → left x.speech r ≡ [] → (x.speech.handed r.service ≡ false → is_some r.answer ≡ true) → is_over x.speech seat.side.halves.out.holding seat.side.fresh r ≡ true
    over_by r none answered =
        ap (λ l. is_none_left l && (if x.speech.handed r.service && is_none r.answer then is_none seat.side.halves.out.holding else is_some r.answer && not seat.side.fresh)) none ∙ go (x.speech.handed r.service) r.answer refl refl
      where
        go : (b : Bool) (o : Option (R × ℕ)) → x.speech.handed r.service ≡ b → r.answer ≡ o → (if b && is_none o then is_none seat.side.halves.out.holding else is_some o && not seat.side.fresh) ≡ true
        go true None e a = ap is_none idles
        go true (Some k) e a = ap not sent
        go false o e a = ap (λ b. b && not seat.side.fresh) (ap is_some (sym a) ∙ answered e) ∙ ap not sent

    mails_answered : (g : Rows) → MailsNow seat.side a.hand (g.front ++ g.last) g.now → (r : Row M Q R) → seat.side.now ≡ Some r → left x.speech r ≡ [] →
        ((frame : ℕ) → answer_after frame r.answer (x.speech.ends r.service (plain x.speech.emission r.heard)) ≡ r.answer) → x.speech.handed r.service ≡ false → is_some r.answer ≡ true
    mails_answered g m r now none stays waits =
        let same : m.row ≡ r = (let some : Some m.row ≡ Some r = sym m.is ∙ now in cc) in
        let shows = subst (λ z. g.now.service ≡ Service.Mails z.service) same m.shows.service in
        let words : g.now.heard ≡ acts r.heard = m.shows.heard ∙ ap (λ (z : Row M Q R). acts z.heard) same in
        let mine : left both.speech g.now ≡ [] = left_mails x s table g.now r shows (m.shows.told ∙ ap (λ (z : Row M Q R). acts z.told) same) words ∙ ap acts none in
        let took : h.carried.taken ≡ held = sym (append-nil h.carried.taken) ∙ ap (λ l. h.carried.taken ++ acts l) (sym nothing_held) in
        let found = replied both (stated_law x s table stated law) (counting seat.start) h.ready g.front g.last g.now held h.carried.taken (acts seat.accepted) g.moment (states_never x s table never) took heard mine
        (ap (service_handed x.speech) shows ∙ waits) in
        let ends : option_map (λ z. Outcome.Replied z) (x.speech.ends r.service (plain x.speech.emission r.heard)) ≡ both.speech.ends g.now.service (plain both.speech.emission g.now.heard) =
        sym (ap (λ z. both.speech.ends z (plain both.speech.emission g.now.heard)) shows ∙ ap (λ l. ends_by x.speech r.service (all_mails (plain both.speech.emission l))) words
        ∙ ap (λ l. ends_by x.speech r.service (all_mails l)) (plain_acts x.speech.emission r.heard) ∙ ap (ends_by x.speech r.service) (all_acts (plain x.speech.emission r.heard))) in
        some_answer r.answer (x.speech.ends r.service (plain x.speech.emission r.heard)) (mapped_some (x.speech.ends r.service (plain x.speech.emission r.heard)) _ (ends ∙ found)) (stays 0)

    -- ALL REPLIES of a newest service by mails were heard
    mails_heard_whole : (g : Rows) → MailsNow seat.side a.hand (g.front ++ g.last) g.now → (r : Row M Q R) → seat.side.now ≡ Some r → left x.speech r ≡ [] → WasHeard x r
    mails_heard_whole g m r now none =
        let same : m.row ≡ r = (let some : Some m.row ≡ Some r = sym m.is ∙ now in cc) in
        let shows = subst (λ z. g.now.service ≡ Service.Mails z.service) same m.shows.service in
        let words : g.now.heard ≡ acts r.heard = m.shows.heard ∙ ap (λ (z : Row M Q R). acts z.heard) same in
        let mine : left both.speech g.now ≡ [] = left_mails x s table g.now r shows (m.shows.told ∙ ap (λ (z : Row M Q R). acts z.told) same) words ∙ ap acts none in
        let took : h.carried.taken ≡ held = sym (append-nil h.carried.taken) ∙ ap (λ l. h.carried.taken ++ acts l) (sym nothing_held) in
        let c = before both (stated_law x s table stated law) (counting seat.start) h.ready g.front g.last g.now held h.carried.taken (acts seat.accepted) g.moment in
        let whole = whole_heard both (stated_law x s table stated law) (counting seat.start) h.ready g.front g.last g.now held h.carried.taken (acts seat.accepted) g.moment (states_never x s table never) took heard mine in
        record {
          server = c.server;
          ready = on both (stated_law x s table stated law) (counting seat.start) h.ready g.front g.last g.now held h.carried.taken (acts seat.accepted) g.moment;
          heard = acts_same (plain x.speech.emission r.heard) (plain x.speech.emission (given x.serve c.server (x.full c.server r.service)))
              (sym (ap (plain both.speech.emission) words ∙ plain_acts x.speech.emission r.heard) ∙ whole ∙ ap (λ q. plain both.speech.emission (given both.serve c (both.full c q))) shows ∙ plain_given_acts x s table c (x.full c.server r.service));
        }

    -- where the newest of all services is by mails
    last_other : (fs : List (Started Q)) (q : Q) (frame at target : ℕ) → (gs : List (Started Q)) → fs ++ record { service = Service.Mails q; frame = frame } ∷ [] ≡ gs ++ record { service = Service.State target; frame = at } ∷ [] → ⊥
    last_other [] q frame at target [] e = (let no : record { service = Service.Mails q; frame = frame } ≡ record { service = Service.State target; frame = at } = cc in absurd (let kind : Service.Mails q ≡ Service.State target = ap (λ (z : Started Q). z.service) no in cc))
    last_other [] q frame at target (g ∷ []) e = absurd (let long = ap length e in omega (arith, long))
    last_other [] q frame at target (g ∷ (k ∷ gs)) e = absurd (let long = ap length e in omega (arith, long))
    last_other (f ∷ []) q frame at target [] e = absurd (let long = ap length e in omega (arith, long))
    last_other (f ∷ (k ∷ fs)) q frame at target [] e = absurd (let long = ap length e in omega (arith, long))
    last_other (f ∷ fs) q frame at target (g ∷ gs) e = last_other fs q frame at target gs (let tail : fs ++ record { service = Service.Mails q; frame = frame } ∷ [] ≡ gs ++ record { service = Service.State target; frame = at } ∷ [] = cc in tail)

    pub heard_whole : IsMailsLast a.started → (r : Row M Q R) → seat.side.now ≡ Some r → left x.speech r ≡ [] → WasHeard x r
    heard_whole mails r now none = elim h.carried.rows [
      | inl u ↦ absurd (let no : Some r ≡ None = sym now ∙ u.now in cc)
      | inr g ↦ elim g.place [
        | inl m ↦ mails_heard_whole g m r now none
        | inr n ↦ absurd (last_other mails.front mails.service mails.frame g.now.frame n.target (starts_of (g.front ++ g.last))
            (sym mails.is ∙ sym g.started ∙ starts_append (g.front ++ g.last) (g.now ∷ []) ∙ ap (λ z. starts_of (g.front ++ g.last) ++ record { service = z; frame = g.now.frame } ∷ []) n.service))
      ]
    ]

    rested_answered : (r : Row M Q R) → RestedRow x law r → x.speech.handed r.service ≡ false → is_some r.answer ≡ true
    rested_answered r k waits = elim k.done [
      | inl b ↦ ap is_some b.0.1
      | inr b ↦ absurd (let no : true ≡ false = sym b.0 ∙ waits in cc)
    ]

    row_over : (r : Row M Q R) → seat.side.now ≡ Some r → left x.speech r ≡ [] → ((frame : ℕ) → answer_after frame r.answer (x.speech.ends r.service (plain x.speech.emission r.heard)) ≡ r.answer) → is_over x.speech seat.side.halves.out.holding seat.side.fresh r ≡ true
    row_over r now none stays = elim h.carried.rows [
      | inl u ↦ absurd (let no : Some r ≡ None = sym now ∙ u.now in cc)
      | inr g ↦ elim g.place [
        | inl m ↦ over_by r none (mails_answered g m r now none stays)
        | inr n ↦ over_by r none (rested_answered r (state_row g n r now))
      ]
    ]

    -- its newest service by mails is over, and its last write is done
    abbrev NoneLeft : Type 0
    NoneLeft = (r : Row M Q R) → seat.side.now ≡ Some r → (left x.speech r ≡ []) × ((frame : ℕ) → answer_after frame r.answer (x.speech.ends r.service (plain x.speech.emission r.heard)) ≡ r.answer)

    free_by : (now : Option (Row M Q R)) → seat.side.now ≡ now → NoneLeft → is_free x.speech seat.side now ≡ true
    free_by None e k = refl
    free_by (Some r) e k = row_over r e (k r e).0 (k r e).1

    done_by : (now : Option (Row M Q R)) → is_acknowledged x.speech s.acknowledged seat.side now ≡ true
    done_by None = refl
    done_by (Some r) = go (ends_unheard x.speech s.acknowledged r)
      where
        go : (b : Bool) → (if b then is_none seat.side.halves.out.holding else true) ≡ true
        go true = ap is_none idles
        go false = refl

    pub free : NoneLeft → (is_free x.speech seat.side seat.side.now ≡ true) × (is_acknowledged x.speech s.acknowledged seat.side seat.side.now ≡ true)
    free k = (free_by seat.side.now refl k, done_by seat.side.now)
