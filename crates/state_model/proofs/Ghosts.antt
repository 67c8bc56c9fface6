-- The rows of a slave's services by mails and state services as rows of one exchange of both, beside the session's side of its mails: ghosts
-- that no master keeps. What a control word does stands in them where the slave's AL state changes, or at last where its service is closed.
use Rattle.std.proofs.Common.{◌≡◌, ◌⊎◌, inl, inr, ℕ, ◌+◌, true, false, Option, None, Some, List, [], ◌∷◌, ◌++◌, map, refl, sym, ap, ◌∙◌, append_assoc, arith}
use Rattle.segment_model.specs.of_exchange_model.Exchange.{Exchange, IsLawful, after, given}
use Rattle.segment_model.specs.of_exchange_model.Rows.{Row, left, services}
use Rattle.segment_model.specs.of_exchange_model.Laws.{Moment}
use Rattle.segment_model.specs.of_link_model.Mails.{LinkMail}
use Rattle.segment_model.specs.Slaves.{Slave}
use Rattle.segment_model.specs.Ends.{Outcome}
use Rattle.segment_model.specs.Seats.{Side, Seat, rows_of}
use Rattle.segment_model.specs.Laws.{as_outcome}
use Rattle.segment_model.proofs.Handed.{Facts}
use Rattle.state_model.specs.States.{Table}
use Rattle.state_model.specs.Promises.{state_behind}
use Rattle.state_model.specs.Stated.{Stated, Act, Service, Counting, acts, mails, states_in, with_states}
use Rattle.state_model.specs.Accounts.{Started, Stage, Duty, Account}

-- a row of the exchange of both
abbrev pub GhostRow : Type 0 → Type 0 → Type 0 → Type 0
GhostRow M Q R = Row (Act M) (Service Q) (Outcome R)

-- a slave's server at the end of bring-up: no control word is carried out yet
abbrev pub counting : {V : Type 0} → V → Counting V
counting v = record { server = v; words = 0 }

-- the rows as their account has them
abbrev pub start_of : {M Q R : Type 0} → GhostRow M Q R → Started Q
start_of g = record { service = g.service; frame = g.frame }

abbrev pub starts_of : {M Q R : Type 0} → List (GhostRow M Q R) → List (Started Q)
starts_of gs = map (λ g. start_of g) gs

-- what a row by mails is known by
pub record Label (Q R : Type 0) : Type 0 where
  pub service : Q
  pub frame : ℕ
  pub answer : Option (Outcome R × ℕ)

abbrev pub label_of : {M Q R : Type 0} → Row M Q R → Label Q R
label_of r = record { service = r.service; frame = r.frame; answer = as_outcome r.answer }

abbrev pub labels_of : {M Q R : Type 0} → List (Row M Q R) → List (Label Q R)
labels_of rs = map (λ r. label_of r) rs

abbrev pub label_by : {M Q R : Type 0} → GhostRow M Q R → Service Q → List (Label Q R)
label_by g (Service.Mails q) = record { service = q; frame = g.frame; answer = g.answer } ∷ []
label_by g (Service.State target) = []

-- the labels of the rows by mails among these
abbrev pub mail_labels : {M Q R : Type 0} → List (GhostRow M Q R) → List (Label Q R)
mail_labels [] = []
mail_labels (g ∷ gs) = label_by g g.service ++ mail_labels gs

-- a row by mails as one of the exchange of both
pub record Shows {M Q R : Type 0} (g : GhostRow M Q R) (r : Row M Q R) : Type 0 where
  pub service : g.service ≡ Service.Mails r.service
  pub frame : g.frame ≡ r.frame
  pub told : g.told ≡ acts r.told
  pub heard : g.heard ≡ acts r.heard
  pub answer : g.answer ≡ as_outcome r.answer

module _ {V A M Q R : Type 0} (x : Exchange V A M Q R) (law : IsLawful x) where
  -- the newest row by mails where a state service came behind it: nothing is left of it, and no mail answers it any more
  pub record RestedRow (r : Row M Q R) : Type 0 where
    pub left : left x.speech r ≡ []
    pub done : (((a : R × ℕ) × (r.answer ≡ Some a)) × (x.speech.handed r.service ≡ false)) ⊎ ((x.speech.handed r.service ≡ true) × Facts x law r)

  abbrev pub Rested : List (Row M Q R) → Option (Row M Q R) → Type 0
  Rested past None = past ≡ []
  Rested past (Some r) = RestedRow r

-- THE STAGE of the newest state service: it drains, and its control word isn't taken, and either the outward half is idle or all mails held
-- were taken; it goes on, all were taken, and its word is taken where the AL state is the one behind it; or it is over, and its word is taken
abbrev pub StagedBy : {M : Type 0} → Table → ℕ → ℕ → List M → Option (LinkMail M) → ℕ → Stage → List (Act M) → Type 0
StagedBy table from state rest holding target Stage.Drains told = (told ≡ []) × (state ≡ from) × ((holding ≡ None) ⊎ (rest ≡ []))
StagedBy table from state rest holding target (Stage.Goes phase) told =
    (rest ≡ []) × (((told ≡ []) × (state ≡ from)) ⊎ ((told ≡ Act.Word target ∷ []) × (state ≡ state_behind table from target)))

abbrev pub Staged : {M : Type 0} → Table → ℕ → ℕ → List M → Option (LinkMail M) → ℕ → ℕ → Option Duty → List (Act M) → Type 0
Staged table from state rest holding target frame None told = (rest ≡ []) × (told ≡ Act.Word target ∷ [])
Staged table from state rest holding target frame (Some duty) told =
    (duty.target ≡ target) × (duty.frame ≡ frame) × StagedBy table from state rest holding target duty.stage told

-- the newest row goes by mails, and is the side's newest
pub record MailsNow {M Q R : Type 0} (d : Side M Q R) (hand : Option Duty) (before : List (GhostRow M Q R)) (g : GhostRow M Q R) : Type 0 where
  pub row : Row M Q R
  pub is : d.now ≡ Some row
  pub shows : Shows g row
  pub past : mail_labels before ≡ labels_of d.past
  pub free : hand ≡ None

module _ {V A M Q R : Type 0} (x : Exchange V A M Q R) (law : IsLawful x) (s : Stated V A Q) (table : Table) where
  -- or it is of a state service, and the side's newest row rests
  pub record StateNow (from state : ℕ) (rest : List M) (d : Side M Q R) (hand : Option Duty) (before : List (GhostRow M Q R)) (g : GhostRow M Q R) : Type 0 where
    pub target : ℕ
    pub service : g.service ≡ Service.State target
    pub past : mail_labels before ≡ labels_of (rows_of d)
    pub rested : Rested x law d.past d.now
    pub stage : Staged table from state rest d.halves.out.holding target g.frame hand g.told

  abbrev pub Now : ℕ → ℕ → List M → Side M Q R → Option Duty → List (GhostRow M Q R) → GhostRow M Q R → Type 0
  Now from state rest d hand before g = MailsNow d hand before g ⊎ StateNow from state rest d hand before g

  -- rows that fit: `taken` are the acts that the server took, `rest` the mails held beside
  pub record Rowed (from : ℕ) (seat : Seat V M Q R) (a : Account Q R) (taken : List (Act M)) (rest : List M) : Type 0 where
    pub front : List (GhostRow M Q R)
    pub last : List (GhostRow M Q R)
    pub now : GhostRow M Q R
    pub moment : Moment (with_states x s table) (counting seat.start) front last now (taken ++ acts rest) taken (acts seat.accepted)
    pub started : starts_of (front ++ last ++ now ∷ []) ≡ a.started
    pub mails_last : states_in (services last) ≡ 0
    pub place : Now from seat.slave.registers.state rest seat.side a.hand (front ++ last) now

  -- before the first service
  pub record Untouched (seat : Seat V M Q R) (a : Account Q R) (taken : List (Act M)) : Type 0 where
    pub started : a.started ≡ []
    pub hand : a.hand ≡ None
    pub past : seat.side.past ≡ []
    pub now : seat.side.now ≡ None
    pub held : seat.held ≡ []
    pub none : taken ≡ []

  -- WHAT A SEAT AND ITS ACCOUNT CARRY, where `from` is the AL state behind the state services that are over: the server is the fold over the acts
  -- taken, what it gave was offered or waits, its AL state is the register's, and the rows fit
  pub record Carried (from : ℕ) (seat : Seat V M Q R) (a : Account Q R) : Type 0 where
    pub taken : List (Act M)
    pub rest : List M
    pub taken_is : mails taken ≡ seat.taken
    pub held_is : seat.held ≡ seat.taken ++ rest
    pub serves : (after (with_states x s table).serve (counting seat.start) taken).server ≡ seat.slave.node.server.server
    pub gave : given (with_states x s table).serve (counting seat.start) taken ≡ acts (seat.offered ++ seat.slave.node.server.waiting)
    pub state : seat.slave.registers.state ≡ s.state (x.app seat.slave.node.server.server)
    pub rows : Untouched seat a taken ⊎ Rowed from seat a taken rest

  abbrev pub Rows : ℕ → Seat V M Q R → Account Q R → List (Act M) → List M → Type 0
  Rows from seat a taken rest = Untouched seat a taken ⊎ Rowed from seat a taken rest

  -- the same acts at the same slave, beside other rows
  pub other_rows : (from from' : ℕ) (seat : Seat V M Q R) (side : Side M Q R) (accepted : List M) (a b : Account Q R) (c : Carried from seat a) →
      (let t = record seat { side = side; accepted = accepted } in Rows from' t b c.taken c.rest → Carried from' t b)
  other_rows from from' seat side accepted a b c rows = record {
    taken = c.taken;
    rest = c.rest;
    taken_is = c.taken_is;
    held_is = c.held_is;
    serves = c.serves;
    gave = c.gave;
    state = c.state;
    rows = rows;
  }

  -- the same rows beside another side with the same rows by mails and another slave, where the newest has its place there
  pub placed_rows : (from : ℕ) (seat : Seat V M Q R) (side : Side M Q R) (slave : Slave V M) (a : Account Q R) (taken : List (Act M)) (rest : List M) → side.past ≡ seat.side.past → side.now ≡ seat.side.now →
      ((before : List (GhostRow M Q R)) (g : GhostRow M Q R) → Now from seat.slave.registers.state rest seat.side a.hand before g → Now from slave.registers.state rest side a.hand before g) →
      Rows from seat a taken rest → Rows from (record seat { side = side; slave = slave }) a taken rest
  placed_rows from seat side slave a taken rest past now place (inl u) = inl (record { started = u.started; hand = u.hand; past = past ∙ u.past; now = now ∙ u.now; held = u.held; none = u.none })
  placed_rows from seat side slave a taken rest past now place (inr r) = inr (record {
    front = r.front;
    last = r.last;
    now = r.now;
    moment = r.moment;
    started = r.started;
    mails_last = r.mails_last;
    place = place (r.front ++ r.last) r.now r.place;
  })

-- lists of rows one behind the other
pub starts_append : {M Q R : Type 0} (gs hs : List (GhostRow M Q R)) → starts_of (gs ++ hs) ≡ starts_of gs ++ starts_of hs
starts_append [] hs = refl
starts_append (g ∷ gs) hs = ap (λ l. start_of g ∷ l) (starts_append gs hs)

pub services_append : {M Q R : Type 0} (gs hs : List (Row M Q R)) → services (gs ++ hs) ≡ services gs ++ services hs
services_append [] hs = refl
services_append (g ∷ gs) hs = ap (λ l. g.service ∷ l) (services_append gs hs)

pub labels_append : {M Q R : Type 0} (rs ts : List (Row M Q R)) → labels_of (rs ++ ts) ≡ labels_of rs ++ labels_of ts
labels_append [] ts = refl
labels_append (r ∷ rs) ts = ap (λ l. label_of r ∷ l) (labels_append rs ts)

pub mail_labels_append : {M Q R : Type 0} (gs hs : List (GhostRow M Q R)) → mail_labels (gs ++ hs) ≡ mail_labels gs ++ mail_labels hs
mail_labels_append [] hs = refl
mail_labels_append (g ∷ gs) hs = ap (λ l. label_by g g.service ++ l) (mail_labels_append gs hs) ∙ sym (append_assoc (label_by g g.service) (mail_labels gs) (mail_labels hs))

pub states_append : {Q : Type 0} (ss ts : List (Service Q)) → states_in (ss ++ ts) ≡ states_in ss + states_in ts
states_append [] ts = omega arith
states_append (Service.Mails q ∷ ss) ts = states_append ss ts
states_append (Service.State target ∷ ss) ts = let e = states_append ss ts in omega (arith, e)

-- a row that shows one by mails has its label
pub shown_label : {M Q R : Type 0} (g : GhostRow M Q R) (r : Row M Q R) → Shows g r → label_by g g.service ≡ label_of r ∷ []
shown_label g r h = ap (λ q. label_by g q) h.service ∙ (λ i. record { service = r.service; frame = h.frame i; answer = h.answer i } ∷ [])

pub state_label : {M Q R : Type 0} (g : GhostRow M Q R) (target : ℕ) → g.service ≡ Service.State target → label_by g g.service ≡ []
state_label g target e = ap (λ q. label_by g q) e

-- rows that differ in mails alone
pub starts_now : {M Q R : Type 0} (before : List (GhostRow M Q R)) (g h : GhostRow M Q R) → start_of g ≡ start_of h → starts_of (before ++ g ∷ []) ≡ starts_of (before ++ h ∷ [])
starts_now before g h e = starts_append before (g ∷ []) ∙ ap (λ l. starts_of before ++ l ∷ []) e ∙ sym (starts_append before (h ∷ []))
