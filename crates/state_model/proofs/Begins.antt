-- The ghost rows before a frame: a service comes into hand, and a mail is taken up.
use Rattle.std.proofs.Common.{◌≡◌, ◌⊎◌, inl, inr, ℕ, ◌+◌, ◌≤◌, ◌&&◌, Bool, true, false, is_none, if◌then◌else◌, Option, None, Some, option_map, List, [], ◌∷◌, ◌++◌, length, refl, sym, ap, ap₂, ◌∙◌, subst, append_assoc, append-nil, arith, length-append}
use Rattle.std.proofs.lemmas.Bool.{and_parts}
use Rattle.segment_model.specs.of_exchange_model.Prefix.{IsPrefixOf}
use Rattle.segment_model.specs.of_exchange_model.Exchange.{Exchange, IsLawful, after, given, plain, outnumbers}
use Rattle.segment_model.specs.of_exchange_model.Rows.{Row, Settled, ends_unheard, begun, row_told, left, told_all, heard_all, services}
use Rattle.segment_model.specs.of_exchange_model.Laws.{Moment}
use Rattle.segment_model.proofs.of_exchange_model.Lasts.{answered_unheard}
use Rattle.segment_model.proofs.of_exchange_model.Lists.{append_none, prefix_nil}
use Rattle.segment_model.proofs.of_exchange_model.Moments
use Rattle.segment_model.specs.of_link_model.Mails
use Rattle.segment_model.specs.of_link_model.Mails.{LinkMail}
use Rattle.segment_model.proofs.of_link_model.Law.{accepted_of_offered}
use Rattle.segment_model.specs.Ends.{Outcome}
use Rattle.segment_model.specs.Laws.{as_outcome}
use Rattle.segment_model.specs.Seats.{Side, Seat, link_of, newest, rows_of, is_over, side_begins, side_holds, next_mail, first_left, seat_next}
use Rattle.segment_model.proofs.Overs.{over_parts, idle}
use Rattle.segment_model.proofs.Fitted.{few}
use Rattle.segment_model.proofs.Handed.{Facts, facts_of}
use Rattle.segment_model.proofs.Sounds.{SeatAgrees}
use Rattle.state_model.specs.States.{Table}
use Rattle.state_model.specs.Stated.{Stated, IsStated, Act, Service, acts, states_in, with_states, service_valid, service_handed, service_planned}
use Rattle.state_model.proofs.Acts.{acts_append, acts_length, acts_same, begin_acts, plain_acts, left_mails, left_none}
use Rattle.state_model.proofs.StatedLaw.{stated_law}
use Rattle.state_model.proofs.Takens.{answered_taken}
use Rattle.state_model.specs.Accounts.{Account, Duty, Pick, mails_begin, mails_choice, is_free, is_acknowledged, starts, state_begins, account_begins, account_next}
use Rattle.state_model.proofs.Ghosts.{GhostRow, counting, starts_of, labels_of, mail_labels, Shows, Rested, RestedRow, Staged, MailsNow, StateNow, Rowed, Untouched, Carried, starts_append, starts_now, labels_append, mail_labels_append, shown_label, state_label, Now, Rows, other_rows}

-- what was accepted was given
pub accepted_begin : {M : Type 0} (accepted offered waiting : List M) (g : List (Act M)) → g ≡ acts (offered ++ waiting) → Mails.IsPrefixOf accepted offered → IsPrefixOf (acts accepted) g
accepted_begin accepted offered waiting g e p = (
  acts (p.0 ++ waiting),
  sym (acts_append accepted (p.0 ++ waiting)) ∙ ap acts (sym (append_assoc accepted p.0 waiting) ∙ ap (λ l. l ++ waiting) (sym p.1)) ∙ sym e,
)

no_acts : {M : Type 0} (ms : List M) → acts ms ≡ [] → ms ≡ []
no_acts ms e = acts_same ms [] e

-- of a list that is its own beginning nothing is left
pub none_behind : {M : Type 0} (taken : List (Act M)) (rest : List M) → taken ≡ taken ++ acts rest → rest ≡ []
none_behind [] rest e = no_acts rest (sym e)
none_behind (a ∷ taken) rest e = none_behind taken rest (cc)

nothing_behind : {X : Type 0} (taken rest held : List X) → held ≡ taken ++ rest → held ≡ [] → rest ≡ []
nothing_behind taken rest held e n = (append_none taken rest (sym e ∙ n)).1

-- with all mails of the rows taken there is no row before the newest of which some may not be
regroup : {V A M Q R : Type 0} (x : Exchange V A M Q R) (v : V) (front last : List (Row M Q R)) (now : Row M Q R) (held taken accepted : List M) → IsPrefixOf (told_all (front ++ last)) taken →
    Moment x v front last now held taken accepted → Moment x v (front ++ last) [] now held taken accepted
regroup x v front last now held taken accepted p at =
    let f = at.fits in
    let e : front ++ last ≡ (front ++ last) ++ [] = sym (append-nil (front ++ last)) in
    record {
      fits = record {
        valid = f.valid;
        settled = subst (Settled x v) e f.settled;
        mine = subst (λ l. IsPrefixOf now.told (x.full (after x.serve v (told_all l)) now.service)) e f.mine;
        all_held = f.all_held ∙ ap (λ l. told_all l ++ now.told) e;
        all_accepted = f.all_accepted ∙ ap (λ l. heard_all l ++ now.heard) e;
        all_taken = p;
        one = omega arith;
        counted = λ r is replies. absurd (cc);
        answered = f.answered;
      };
      order = at.order;
      hears = at.hears;
    }

pub same_moment : {V A M Q R : Type 0} (x : Exchange V A M Q R) (v : V) (front last : List (Row M Q R)) (now : Row M Q R) (held held' taken taken' accepted accepted' : List M) → held ≡ held' → taken ≡ taken' → accepted ≡ accepted' →
    Moment x v front last now held taken accepted → Moment x v front last now held' taken' accepted'
same_moment x v front last now held held' taken taken' accepted accepted' e f g at =
    subst (λ l. Moment x v front last now held' taken' l) g (subst (λ l. Moment x v front last now held' l accepted) f (subst (λ l. Moment x v front last now l taken accepted) e at))

module _ {V A M Q R : Type 0} (x : Exchange V A M Q R) (law : IsLawful x) (s : Stated V A Q) (table : Table) (stated : IsStated x s) where
  -- what is known of a row by mails that ends with its last write
  pub mails_facts : (v : V) → x.ready v ≡ true → (front last : List (GhostRow M Q R)) (g : GhostRow M Q R) (held taken accepted : List (Act M)) → Moment (with_states x s table) (counting v) front last g held taken accepted →
      (r : Row M Q R) → Shows g r → x.speech.handed r.service ≡ true → Facts x law r
  mails_facts v ready front last g held taken accepted at r h posts =
      let y = with_states x s table in
      let f = facts_of y (stated_law x s table stated law) (counting v) ready (front ++ last) (Some g) held taken accepted (record { front = front; last = last; split = refl; moment = at })
      (ap (service_handed x.speech) h.service ∙ posts) in
      let planned : service_planned x.speech g.service [] ≡ acts (x.speech.planned r.service []) = ap (λ q. service_planned x.speech q []) h.service in
      record {
        silent = no_acts (plain x.speech.emission r.heard) (sym (plain_acts x.speech.emission r.heard) ∙ ap (plain y.speech.emission) (sym h.heard) ∙ f.silent);
        mine = begin_acts r.told (x.speech.planned r.service []) (subst (λ l. IsPrefixOf l (acts (x.speech.planned r.service []))) h.told (subst (IsPrefixOf g.told) planned f.mine));
        some = λ none. f.some (planned ∙ ap acts none);
        unanswered = none_of r.answer (sym h.answer ∙ f.unanswered);
      }
    where
      none_of : (o : Option (R × ℕ)) → as_outcome o ≡ None → o ≡ None
      none_of None e = refl
      none_of (Some a) e = absurd (cc)

  -- a service that begins behind these rows
  pub record Begun (seat : Seat V M Q R) (taken : List (Act M)) (rest : List M) (before : List (GhostRow M Q R)) (q : Service Q) (frame : ℕ) : Type 0 where
    pub front : List (GhostRow M Q R)
    pub last : List (GhostRow M Q R)
    pub is : front ++ last ≡ before
    pub moment : Moment (with_states x s table) (counting seat.start) front last (begun q frame) (taken ++ acts rest) taken (acts seat.accepted)
    pub mails_last : states_in (services last) ≡ 0

  -- with nothing in hand any may
  pub record Opening (seat : Seat V M Q R) (a : Account Q R) (taken : List (Act M)) (rest : List M) : Type 0 where
    pub before : List (GhostRow M Q R)
    pub started : starts_of before ≡ a.started
    pub labels : mail_labels before ≡ labels_of (rows_of seat.side)
    pub rested : Rested x law seat.side.past seat.side.now
    pub drained : is_acknowledged x.speech s.acknowledged seat.side seat.side.now ≡ true → (seat.side.halves.out.holding ≡ None) ⊎ (rest ≡ [])
    pub next : (q : Service Q) (frame : ℕ) → service_valid x.speech q ≡ true → Begun seat taken rest before q frame

  opens_first : (from : ℕ) (seat : Seat V M Q R) (a : Account Q R) → x.ready seat.start ≡ true → SeatAgrees x seat → (c : Carried x law s table from seat a) → Untouched x law s table seat a c.taken → Opening seat a c.taken c.rest
  opens_first from seat a ready agrees c u =
      let y = with_states x s table in
      let rest = nothing_behind seat.taken c.rest seat.held c.held_is u.held in
      let given_none : given y.serve (counting seat.start) c.taken ≡ [] = ap (given y.serve (counting seat.start)) u.none in
      let accepted : acts seat.accepted ≡ [] = prefix_nil (acts seat.accepted) (subst (IsPrefixOf (acts seat.accepted)) given_none (accepted_begin seat.accepted seat.offered seat.slave.node.server.waiting _ c.gave (accepted_of_offered (link_of seat) agrees))) in
      let held : c.taken ++ acts c.rest ≡ [] = ap₂ (λ (l : List (Act M)) (m : List M). l ++ acts m) u.none rest in
      record {
        before = [];
        started = sym u.started;
        labels = sym (ap₂ (λ (l : List (Row M Q R)) (n : Option (Row M Q R)). labels_of (l ++ newest n)) u.past u.now);
        rested = subst (Rested x law seat.side.past) (sym u.now) u.past;
        drained = λ k. inr rest;
        next = λ q frame valid. record {
          front = [];
          last = [];
          is = refl;
          moment = same_moment y (counting seat.start) [] [] (begun q frame) [] _ [] _ [] _ (sym held) (sym u.none) (sym accepted) (Moments.first y (stated_law x s table stated law) (counting seat.start) ready q frame valid);
          mails_last = refl;
        };
      }

  -- of a row by mails that is over
  opens_mails : (from : ℕ) (seat : Seat V M Q R) (a : Account Q R) → x.ready seat.start ≡ true → SeatAgrees x seat → (c : Carried x law s table from seat a) → (r : Rowed x law s table from seat a c.taken c.rest) →
      (m : MailsNow seat.side a.hand (r.front ++ r.last) r.now) → is_over x.speech seat.side.halves.out.holding seat.side.fresh m.row ≡ true → Opening seat a c.taken c.rest
  opens_mails from seat a ready agrees c r m over =
      record {
        before = r.front ++ r.last ++ r.now ∷ [];
        started = r.started;
        labels = mail_labels_append (r.front ++ r.last) (r.now ∷ [])
            ∙ ap₂ (λ (l k : List _). l ++ (k ++ [])) m.past (shown_label r.now m.row m.shows)
            ∙ sym (labels_append seat.side.past (m.row ∷ [])) ∙ ap (λ n. labels_of (seat.side.past ++ newest n)) (sym m.is);
        rested = subst (Rested x law seat.side.past) (sym m.is) (record { left = parts.0; done = done });
        drained = λ k. drained parts.1 (ends_unheard x.speech s.acknowledged m.row) refl (sym (ap (is_acknowledged x.speech s.acknowledged seat.side) m.is) ∙ k);
        next = λ q frame valid. record {
          front = r.front ++ r.last;
          last = r.now ∷ [];
          is = refl;
          moment = next parts.1 q frame valid;
          mails_last = ap (λ q. states_in (q ∷ [])) m.shows.service;
        };
      }
    where
      parts : (left x.speech m.row ≡ []) × (((x.speech.handed m.row.service ≡ true) × (seat.side.halves.out.holding ≡ None)) ⊎ (((a : R × ℕ) × (m.row.answer ≡ Some a)) × (seat.side.fresh ≡ false)))
      parts = over_parts x seat.side.halves.out.holding seat.side.fresh m.row over

      lawful : IsLawful (with_states x s table)
      lawful = stated_law x s table stated law

      nothing : left (with_states x s table).speech r.now ≡ []
      nothing = left_mails x s table r.now m.row m.shows.service m.shows.told m.shows.heard ∙ ap acts parts.0

      answer : (b : R × ℕ) → m.row.answer ≡ Some b → r.now.answer ≡ Some (Outcome.Replied b.0, b.1)
      answer b e = m.shows.answer ∙ ap (λ o. option_map (λ (c : R × ℕ). (Outcome.Replied c.0, c.1)) o) e

      done : (((a : R × ℕ) × (m.row.answer ≡ Some a)) × (x.speech.handed m.row.service ≡ false)) ⊎ ((x.speech.handed m.row.service ≡ true) × Facts x law m.row)
      done = elim parts.1 [
        | inl h ↦ inr (h.0, mails_facts seat.start ready r.front r.last r.now (c.taken ++ acts c.rest) c.taken (acts seat.accepted) r.moment m.row m.shows h.0)
        | inr b ↦ inl (b.0, sym (ap (service_handed x.speech) m.shows.service) ∙ (r.moment.fits.answered (Outcome.Replied b.0.0.0, b.0.0.1) (answer b.0.0 b.0.1)).0)
      ]

      short : seat.side.halves.out.holding ≡ None → length (c.taken ++ acts c.rest) ≤ length c.taken + 1
      short e =
          let l1 = few (link_of seat) agrees e in
          let l2 = ap length c.held_is ∙ length-append seat.taken c.rest in
          let l3 = length-append c.taken (acts c.rest) in
          let l4 = acts_length c.rest in
          omega (arith, l1, l2, l3, l4)

      next : ((x.speech.handed m.row.service ≡ true) × (seat.side.halves.out.holding ≡ None)) ⊎ (((a : R × ℕ) × (m.row.answer ≡ Some a)) × (seat.side.fresh ≡ false)) → (q : Service Q) (frame : ℕ) → service_valid x.speech q ≡ true →
          Moment (with_states x s table) (counting seat.start) (r.front ++ r.last) (r.now ∷ []) (begun q frame) (c.taken ++ acts c.rest) c.taken (acts seat.accepted)
      next (inl h) q frame valid =
          Moments.handed (with_states x s table) lawful (counting seat.start) ready r.front r.last r.now (c.taken ++ acts c.rest) c.taken (acts seat.accepted) r.moment (ap (service_handed x.speech) m.shows.service ∙ h.0) nothing (short h.1) q frame valid
      next (inr b) q frame valid =
          Moments.answered (with_states x s table) lawful (counting seat.start) ready r.front r.last r.now (c.taken ++ acts c.rest) c.taken (acts seat.accepted) r.moment (Outcome.Replied b.0.0.0, b.0.0.1) (answer b.0.0 b.0.1) nothing q frame valid

      unheard : (b : R × ℕ) → m.row.answer ≡ Some b → ends_unheard x.speech s.acknowledged m.row ≡ false →
          (s.acknowledged m.row.service && outnumbers (x.speech.planned m.row.service (plain x.speech.emission m.row.heard)) (plain x.speech.emission m.row.heard)) ≡ false
      unheard b is e = sym (answered_unheard x.speech s.acknowledged m.row b is) ∙ e

      drained : ((x.speech.handed m.row.service ≡ true) × (seat.side.halves.out.holding ≡ None)) ⊎ (((a : R × ℕ) × (m.row.answer ≡ Some a)) × (seat.side.fresh ≡ false)) → (acknowledged : Bool) → ends_unheard x.speech s.acknowledged m.row ≡ acknowledged →
          (if acknowledged then is_none seat.side.halves.out.holding else true) ≡ true → (seat.side.halves.out.holding ≡ None) ⊎ (c.rest ≡ [])
      drained (inl h) acknowledged e k = inl h.1
      drained (inr b) true e k = inl (idle seat.side.halves.out.holding k)
      drained (inr b) false e k = inr (none_behind c.taken c.rest (answered_taken x s table stated law (counting seat.start) ready r.front r.last r.now (c.taken ++ acts c.rest) c.taken (acts seat.accepted) r.moment
          m.row.service m.shows.service m.row.heard m.shows.heard (unheard b.0.0 b.0.1 e) (Outcome.Replied b.0.0.0, b.0.0.1) (answer b.0.0 b.0.1) nothing))

  -- and of a state service that is over
  opens_state : (from : ℕ) (seat : Seat V M Q R) (a : Account Q R) → x.ready seat.start ≡ true → (c : Carried x law s table from seat a) → (r : Rowed x law s table from seat a c.taken c.rest) →
      StateNow x law s table from seat.slave.registers.state c.rest seat.side a.hand (r.front ++ r.last) r.now → a.hand ≡ None → Opening seat a c.taken c.rest
  opens_state from seat a ready c r n free =
      record {
        before = r.front ++ r.last ++ r.now ∷ [];
        started = r.started;
        labels = mail_labels_append (r.front ++ r.last) (r.now ∷ []) ∙ ap₂ (λ (l k : List _). l ++ (k ++ [])) n.past (state_label r.now n.target n.service) ∙ append-nil (labels_of (rows_of seat.side));
        rested = n.rested;
        drained = λ k. inr over.0;
        next = λ q frame valid. record {
          front = r.front ++ r.last ++ r.now ∷ [];
          last = [];
          is = append-nil (r.front ++ r.last ++ r.now ∷ []);
          moment = regroup (with_states x s table) (counting seat.start) (r.front ++ r.last) (r.now ∷ []) (begun q frame) held c.taken (acts seat.accepted)
              ([], append-nil _ ∙ sym (append-nil _) ∙ sym (next q frame valid).fits.all_held ∙ same) (next q frame valid);
          mails_last = refl;
        };
      }
    where
      held : List (Act M)
      held = c.taken ++ acts c.rest

      over : (c.rest ≡ []) × (r.now.told ≡ Act.Word n.target ∷ [])
      over = subst (λ h. Staged table from seat.slave.registers.state c.rest seat.side.halves.out.holding n.target r.now.frame h r.now.told) free n.stage

      same : held ≡ c.taken
      same = ap (λ l. c.taken ++ acts l) over.0 ∙ append-nil c.taken

      next : (q : Service Q) (frame : ℕ) → service_valid x.speech q ≡ true → Moment (with_states x s table) (counting seat.start) (r.front ++ r.last) (r.now ∷ []) (begun q frame) held c.taken (acts seat.accepted)
      next q frame valid =
          Moments.handed (with_states x s table) (stated_law x s table stated law) (counting seat.start) ready r.front r.last r.now held c.taken (acts seat.accepted) r.moment (ap (service_handed x.speech) n.service)
          (left_none x s table r.now n.target (Act.Word n.target) [] n.service over.1) (let l = ap length same in omega (arith, l)) q frame valid

  -- where nothing is in hand and the newest row by mails is over, the next service may begin
  pub opens : (from : ℕ) (seat : Seat V M Q R) (a : Account Q R) → x.ready seat.start ≡ true → SeatAgrees x seat → (c : Carried x law s table from seat a) → a.hand ≡ None → is_free x.speech seat.side seat.side.now ≡ true → Opening seat a c.taken c.rest
  opens from seat a ready agrees c idle free = elim c.rows [
    | inl u ↦ opens_first from seat a ready agrees c u
    | inr r ↦ elim r.place [
      | inl m ↦ opens_mails from seat a ready agrees c r m (sym (ap (is_free x.speech seat.side) m.is) ∙ free)
      | inr n ↦ opens_state from seat a ready c r n idle
    ]
  ]

  -- a seat with its mails' side changed
  abbrev pub sided : Seat V M Q R → Side M Q R → Seat V M Q R
  sided seat d = record seat { side = d }

  -- the rows of a seat with one more, of a service that begins
  began : (from : ℕ) (seat : Seat V M Q R) (a : Account Q R) (taken : List (Act M)) (rest : List M) (o : Opening seat a taken rest) (service : Service Q) (frame : ℕ) (b : Begun seat taken rest o.before service frame) (side : Side M Q R) (hand : Option Duty) →
      Now x law s table from seat.slave.registers.state rest side hand (b.front ++ b.last) (begun service frame) → Rows x law s table from (sided seat side) (record a { started = starts a service frame; hand = hand }) taken rest
  began from seat a taken rest o service frame b side hand place = inr (record {
    front = b.front;
    last = b.last;
    now = begun service frame;
    moment = b.moment;
    started =
        starts_append (b.front ++ b.last) (begun service frame ∷ []) ∙ ap (λ l. starts_of l ++ record { service = service; frame = frame } ∷ []) b.is
        ∙ ap (λ l. l ++ record { service = service; frame = frame } ∷ []) o.started;
    mails_last = b.mails_last;
    place = place;
  })

  -- a service by mails comes into hand
  begins_mails : (from : ℕ) (seat : Seat V M Q R) (a : Account Q R) (c : Carried x law s table from seat a) → Opening seat a c.taken c.rest → (q : Q) (frame : ℕ) (past : List (Row M Q R)) → labels_of past ≡ labels_of (rows_of seat.side) →
      x.speech.valid q ≡ true → a.hand ≡ None → Carried x law s table from (sided seat (record seat.side { past = past; now = Some (begun q frame) })) (record a { started = starts a (Service.Mails q) frame })
  begins_mails from seat a c o q frame past labels valid free =
      let b = o.next (Service.Mails q) frame valid in
      other_rows x law s table from from seat (record seat.side { past = past; now = Some (begun q frame) }) seat.accepted a (record a { started = starts a (Service.Mails q) frame }) c
      (began from seat a c.taken c.rest o (Service.Mails q) frame b (record seat.side { past = past; now = Some (begun q frame) }) a.hand (inl (record {
        row = begun q frame;
        is = refl;
        shows = record { service = refl; frame = refl; told = refl; heard = refl; answer = refl };
        past = ap mail_labels b.is ∙ o.labels ∙ sym labels;
        free = free;
      })))

  -- a state service comes into hand
  begins_state : (from : ℕ) (seat : Seat V M Q R) (a : Account Q R) (c : Carried x law s table from seat a) → Opening seat a c.taken c.rest → (target frame : ℕ) → is_acknowledged x.speech s.acknowledged seat.side seat.side.now ≡ true →
      seat.slave.registers.state ≡ from → Carried x law s table from seat (state_begins a target frame)
  begins_state from seat a c o target frame acknowledged state =
      let b = o.next (Service.State target) frame refl in
      let new = state_begins a target frame in
      other_rows x law s table from from seat seat.side seat.accepted a new c
      (began from seat a c.taken c.rest o (Service.State target) frame b seat.side new.hand (inr (record {
        target = target;
        service = refl;
        past = ap mail_labels b.is ∙ o.labels;
        rested = o.rested;
        stage = (refl, refl, (refl, state, o.drained acknowledged));
      })))

  -- a service that is wished for comes into hand, where it may
  pub carried_begins : (from : ℕ) (seat : Seat V M Q R) (a : Account Q R) (frame : ℕ) (wish : Option (Service Q)) → x.ready seat.start ≡ true → SeatAgrees x seat → (a.hand ≡ None → seat.slave.registers.state ≡ from) → Carried x law s table from seat a →
      Carried x law s table from (sided seat (side_begins x.speech frame seat.side seat.side.now (mails_begin a.hand wish))) (account_begins x.speech s.acknowledged frame seat.side a a.hand wish)
  carried_begins from seat a frame wish ready agrees stands c = go a.hand wish refl
    where
      free_now : (now : Option (Row M Q R)) → seat.side.now ≡ now → is_free x.speech seat.side now ≡ true → is_free x.speech seat.side seat.side.now ≡ true
      free_now now n f = ap (is_free x.speech seat.side) n ∙ f

      by_mails : (q : Q) (now : Option (Row M Q R)) → seat.side.now ≡ now → a.hand ≡ None →
          Carried x law s table from (sided seat (side_begins x.speech frame seat.side now (Some q))) (if x.speech.valid q && is_free x.speech seat.side now then record a { started = starts a (Service.Mails q) frame } else a)
      by_mails q None n e = one (x.speech.valid q) refl
        where
          one : (valid : Bool) → x.speech.valid q ≡ valid → Carried x law s table from (sided seat (if valid then record seat.side { now = Some (begun q frame) } else seat.side)) (if valid && true then record a { started = starts a (Service.Mails q) frame } else a)
          one false v = c
          one true v = begins_mails from seat a c (opens from seat a ready agrees c e (free_now None n refl)) q frame seat.side.past
              (ap labels_of (sym (append-nil seat.side.past)) ∙ ap (λ (o : Option (Row M Q R)). labels_of (seat.side.past ++ newest o)) (sym n)) v e
      by_mails q (Some r) n e = one (x.speech.valid q) (is_over x.speech seat.side.halves.out.holding seat.side.fresh r) refl refl
        where
          one : (valid over : Bool) → x.speech.valid q ≡ valid → is_over x.speech seat.side.halves.out.holding seat.side.fresh r ≡ over →
              Carried x law s table from (sided seat (if valid && over then record seat.side { past = seat.side.past ++ r ∷ []; now = Some (begun q frame) } else seat.side)) (if valid && over then record a { started = starts a (Service.Mails q) frame } else a)
          one false over v o = c
          one true false v o = c
          one true true v o = begins_mails from seat a c (opens from seat a ready agrees c e (free_now (Some r) n o)) q frame (seat.side.past ++ r ∷ [])
              (ap (λ (o : Option (Row M Q R)). labels_of (seat.side.past ++ newest o)) (sym n)) v e

      by_state : (target : ℕ) (may : Bool) → is_free x.speech seat.side seat.side.now && is_acknowledged x.speech s.acknowledged seat.side seat.side.now ≡ may → a.hand ≡ None →
          Carried x law s table from seat (if may then state_begins a target frame else a)
      by_state target false m e = c
      by_state target true m e =
          let parts = and_parts (is_free x.speech seat.side seat.side.now) (is_acknowledged x.speech s.acknowledged seat.side seat.side.now) m in
          begins_state from seat a c (opens from seat a ready agrees c e parts.0) target frame parts.1 (stands e)

      go : (hand : Option Duty) (wish : Option (Service Q)) → a.hand ≡ hand →
          Carried x law s table from (sided seat (side_begins x.speech frame seat.side seat.side.now (mails_begin hand wish))) (account_begins x.speech s.acknowledged frame seat.side a hand wish)
      go hand None e = c
      go (Some duty) (Some wish) e = c
      go None (Some (Service.Mails q)) e = by_mails q seat.side.now refl e
      go None (Some (Service.State target)) e = by_state target (is_free x.speech seat.side seat.side.now && is_acknowledged x.speech s.acknowledged seat.side seat.side.now) refl e

  -- a seat that takes these mails up
  abbrev holds_of : Seat V M Q R → List M → Seat V M Q R
  holds_of seat ms = record seat { side = side_holds seat.side ms; held = seat.held ++ ms }

  -- one mail is taken up
  holds_mail : (from : ℕ) (seat : Seat V M Q R) (a : Account Q R) → x.ready seat.start ≡ true → (c : Carried x law s table from seat a) (r : Rowed x law s table from seat a c.taken c.rest) → (p : MailsNow seat.side a.hand (r.front ++ r.last) r.now) → (m : M) (more : List M) →
      left x.speech p.row ≡ m ∷ more → Carried x law s table from (holds_of seat (m ∷ [])) a
  holds_mail from seat a ready c r p m more next =
      let y = with_states x s table in
      let here : left y.speech r.now ≡ Act.Mail m ∷ acts more = left_mails x s table r.now p.row p.shows.service p.shows.told p.shows.heard ∙ ap acts next in
      let at = Moments.holds y (stated_law x s table stated law) (counting seat.start) ready r.front r.last r.now (c.taken ++ acts c.rest) c.taken (acts seat.accepted) r.moment (Act.Mail m) (acts more) here in
      let held : (c.taken ++ acts c.rest) ++ Act.Mail m ∷ [] ≡ c.taken ++ acts (c.rest ++ m ∷ []) = append_assoc c.taken (acts c.rest) (Act.Mail m ∷ []) ∙ ap (λ l. c.taken ++ l) (sym (acts_append c.rest (m ∷ []))) in
      record {
        taken = c.taken;
        rest = c.rest ++ m ∷ [];
        taken_is = c.taken_is;
        held_is = ap (λ l. l ++ m ∷ []) c.held_is ∙ append_assoc seat.taken c.rest (m ∷ []);
        serves = c.serves;
        gave = c.gave;
        state = c.state;
        rows = inr (record {
          front = r.front;
          last = r.last;
          now = row_told (Act.Mail m) r.now;
          moment = same_moment y (counting seat.start) r.front r.last (row_told (Act.Mail m) r.now) _ _ c.taken c.taken (acts seat.accepted) (acts seat.accepted) held refl refl at;
          started = starts_now (r.front ++ r.last) (row_told (Act.Mail m) r.now) r.now refl ∙ r.started;
          mails_last = r.mails_last;
          place = inl (record {
            row = row_told m p.row;
            is = ap (λ n. option_map (λ r. row_told m r) n) p.is;
            shows = record { service = p.shows.service; frame = p.shows.frame; told = ap (λ l. l ++ Act.Mail m ∷ []) p.shows.told ∙ sym (acts_append p.row.told (m ∷ [])); heard = p.shows.heard; answer = p.shows.answer };
            past = p.past;
            free = p.free;
          });
        });
      }

  nothing_left : (past : List (Row M Q R)) (now : Option (Row M Q R)) (r : Row M Q R) → now ≡ Some r → Rested x law past now → left x.speech r ≡ []
  nothing_left past now r e h = let k : RestedRow x law r = subst (Rested x law past) e h in k.left

  pub carried_holds : (from : ℕ) (seat : Seat V M Q R) (a : Account Q R) (hold : Bool) → x.ready seat.start ≡ true → Carried x law s table from seat a → Carried x law s table from (holds_of seat (next_mail x.speech seat.side.now seat.side.halves.out.holding hold)) a
  carried_holds from seat a hold ready c = go seat.side.now seat.side.halves.out.holding hold refl
    where
      same : Carried x law s table from (holds_of seat []) a
      same = subst (λ l. Carried x law s table from (record seat { held = l }) a) (sym (append-nil seat.held)) c

      one : (r : Row M Q R) (m : M) (more : List M) → seat.side.now ≡ Some r → left x.speech r ≡ m ∷ more → Carried x law s table from (holds_of seat (m ∷ [])) a
      one r m more n l = elim c.rows [
        | inl u ↦ absurd (let bad : None ≡ Some r = sym u.now ∙ n in cc)
        | inr k ↦ elim k.place [
          | inl p ↦ holds_mail from seat a ready c k p m more (let e : Some p.row ≡ Some r = sym p.is ∙ n in let same : p.row ≡ r = cc in ap (left x.speech) same ∙ l)
          | inr p ↦ absurd (let none = nothing_left seat.side.past seat.side.now r n p.rested in let bad : [] ≡ m ∷ more = sym none ∙ l in cc)
        ]
      ]

      first : (r : Row M Q R) (ms : List M) → seat.side.now ≡ Some r → left x.speech r ≡ ms → Carried x law s table from (holds_of seat (first_left ms)) a
      first r [] n l = same
      first r (m ∷ more) n l = one r m more n l

      go : (now : Option (Row M Q R)) (holding : Option (LinkMail M)) (hold : Bool) → seat.side.now ≡ now → Carried x law s table from (holds_of seat (next_mail x.speech now holding hold)) a
      go now holding false n = same
      go None holding true n = same
      go (Some r) (Some m) true n = same
      go (Some r) None true n = first r (left x.speech r) n refl

  -- BEFORE A FRAME: by the master's choice for the mails, and its account
  pub carried_next : (from : ℕ) (seat : Seat V M Q R) (a : Account Q R) (frame : ℕ) (p : Pick Q) → x.ready seat.start ≡ true → SeatAgrees x seat → (a.hand ≡ None → seat.slave.registers.state ≡ from) → Carried x law s table from seat a →
      Carried x law s table from (seat_next x frame seat (mails_choice a p)) (account_next x.speech s.acknowledged frame seat.side a p)
  carried_next from seat a frame p ready agrees stands c =
      carried_holds from (sided seat (side_begins x.speech frame seat.side seat.side.now (mails_begin a.hand p.begin))) (account_next x.speech s.acknowledged frame seat.side a p) p.hold ready (carried_begins from seat a frame p.begin ready agrees stands c)
