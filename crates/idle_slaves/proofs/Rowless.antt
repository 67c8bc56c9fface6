-- A slave of which no service by mails came into hand has nothing to offer.
use Rattle.std.proofs.Common.{◌≡◌, ◌⊎◌, ℕ, Bool, false, Option, Some, None, List, [], ◌∷◌, ◌++◌, refl, sym, ap, ◌∙◌, subst, inl, inr}
use Rattle.plan_ring.specs.of_exchange_model.Exchange.{Exchange, IsLawful, after, given}
use Rattle.plan_ring.specs.of_exchange_model.Prefix.{IsPrefixOf}
use Rattle.plan_ring.specs.of_exchange_model.Rows.{Row, Settled, told_all}
use Rattle.plan_ring.proofs.of_exchange_model.Lists.{append_none, prefix_nil}
use Rattle.plan_ring.proofs.of_exchange_model.Words.{given-append, given_part}
use Rattle.plan_ring.specs.of_link_model.Agree.{Agrees, unread}
use Rattle.plan_ring.specs.of_link_model.Link.{Link}
use Rattle.plan_ring.specs.of_link_model.Mails.{LinkMail, bodies}
use Rattle.plan_ring.specs.of_link_model.Master.{InState}
use Rattle.plan_ring.specs.of_segment_model.Record.{Frame}
use Rattle.plan_ring.specs.of_segment_model.Seats.{Seat, link_of, newest, rows_of}
use Rattle.plan_ring.specs.of_state_model.Stated.{Stated, IsStated, Act, Counting, Service, acts, with_states}
use Rattle.plan_ring.specs.of_state_model.Promises.{IsTable}
use Rattle.plan_ring.specs.of_state_model.States.{Table}
use Rattle.plan_ring.proofs.of_state_model.Ghosts.{GhostRow, Rested, Rowed, Staged, StagedBy, StateNow, counting, label_by, labels_of, mail_labels}
use Rattle.plan_ring.proofs.of_state_model.Newest.{Holds}
use Rattle.plan_ring.specs.of_state_model.Accounts.{Account, Duty, Stage}

acts_none : {M : Type 0} (ms : List M) → acts ms ≡ [] → ms ≡ []
acts_none [] e = refl
acts_none (m ∷ ms) e = absurd (let no : Act.Mail m ∷ acts ms ≡ [] = e in cc)

-- mailbox 1 is empty where nothing was offered
box_none : {B S : Type 0} (w : Link B S) (box : Option (LinkMail B)) → w.node.inn.box ≡ box → Agrees w → w.halves.inn.state ≡ InState.Clear → w.offered ≡ [] → box ≡ None
box_none w None e a clear none = refl
box_none w (Some b) e a clear none =
    let one = append_none w.accepted _ (sym a.inn.stream ∙ none) in
    let two = append_none _ _ one.1 in
    let three : bodies (unread w.node.inn.again w.node.inn.box) ≡ [] = (append_none _ _ two.1).0 in
    let stands : bodies (unread false (Some b)) ≡ [] = sym (ap (λ z. bodies (unread z w.node.inn.box)) (a.inn.clear clear b e) ∙ ap (λ z. bodies (unread false z)) e) ∙ three in
    absurd (let no : b.body ∷ [] ≡ [] = stands in cc)

module _ {V A M Q R : Type 0} (x : Exchange V A M Q R) (law : IsLawful x) (s : Stated V A Q) (t : Table) where
  abbrev serves : Counting V → Act M → Counting V × List (Act M)
  serves = (with_states x s t).serve

  -- a control word brings nothing
  word_gives : (v : Counting V) (told : List (Act M)) (target : ℕ) → (told ≡ []) ⊎ (told ≡ Act.Word target ∷ []) → given serves v told ≡ []
  word_gives v told target (inl e) = ap (given serves v) e
  word_gives v told target (inr e) = ap (given serves v) e

  states_give : (gs : List (GhostRow M Q R)) (v : Counting V) → Settled (with_states x s t) v gs → mail_labels gs ≡ [] → given serves v (told_all gs) ≡ []
  states_give [] v settled none = refl
  states_give (g ∷ gs) v settled none = go g.service refl (λ rest. states_give gs (after serves v g.told) settled.1 rest) none
    where
      go : (q : Service Q) → g.service ≡ q → (mail_labels gs ≡ [] → given serves (after serves v g.told) (told_all gs) ≡ []) → (label_by g q ++ mail_labels gs) ≡ [] → given serves v (g.told ++ told_all gs) ≡ []
      go (Service.Mails q) e later labels = absurd (let never : label_by g (Service.Mails q) ≡ [] = (append_none (label_by g (Service.Mails q)) (mail_labels gs) labels).0 in cc)
      go (Service.State target) e later rest =
          let told : g.told ≡ Act.Word target ∷ [] = settled.0.told ∙ ap (λ z. (with_states x s t).full v z) e in
          given-append serves v g.told (told_all gs) ∙ ap (λ l. l ++ given serves (after serves v g.told) (told_all gs)) (word_gives v g.told target (inr told))
          ∙ later rest

  stage_told : (from state : ℕ) (rest : List M) (holding : Option (LinkMail M)) (target : ℕ) (stage : Stage) (told : List (Act M)) → StagedBy t from state rest holding target stage told → (told ≡ []) ⊎ (told ≡ Act.Word target ∷ [])
  stage_told from state rest holding target Stage.Drains told k = inl k.0
  stage_told from state rest holding target (Stage.Goes phase) told (rests, inl k) = inl k.0
  stage_told from state rest holding target (Stage.Goes phase) told (rests, inr k) = inr k.0

  hand_told : (from state : ℕ) (rest : List M) (holding : Option (LinkMail M)) (target frame : ℕ) (hand : Option Duty) (told : List (Act M)) → Staged t from state rest holding target frame hand told → (told ≡ []) ⊎ (told ≡ Act.Word target ∷ [])
  hand_told from state rest holding target frame None told k = inr k.1
  hand_told from state rest holding target frame (Some duty) told k = stage_told from state rest holding target duty.stage told k.2

  module _ (seat : Seat V M Q R) (a : Account Q R) (none : seat.side.now ≡ None) where
    abbrev start : Counting V
    start = counting seat.start

    state_gives : (from : ℕ) (taken : List (Act M)) (rest : List M) (r : Rowed x law s t from seat a taken rest) → StateNow x law s t from seat.slave.registers.state rest seat.side a.hand (r.front ++ r.last) r.now → given serves start taken ≡ []
    state_gives from taken rest r k =
        let past : seat.side.past ≡ [] = subst (λ z. Rested x law seat.side.past z) none k.rested in
        let rows : rows_of seat.side ≡ [] = ap (λ z. z ++ newest seat.side.now) past ∙ ap newest none in
        let before : mail_labels (r.front ++ r.last) ≡ [] = k.past ∙ ap labels_of rows in
        let now = word_gives (after serves start (told_all (r.front ++ r.last))) r.now.told k.target (hand_told from seat.slave.registers.state rest seat.side.halves.out.holding k.target r.now.frame a.hand r.now.told k.stage) in
        let all : given serves start (taken ++ acts rest) ≡ [] =
        ap (given serves start) r.moment.fits.all_held ∙ given-append serves start (told_all (r.front ++ r.last)) r.now.told
        ∙ ap (λ l. l ++ given serves (after serves start (told_all (r.front ++ r.last))) r.now.told) (states_give (r.front ++ r.last) start r.moment.fits.settled before) ∙ now in
        prefix_nil (given serves start taken) (subst (λ l. IsPrefixOf (given serves start taken) l) all (given_part serves start taken (taken ++ acts rest) r.moment.order))

  module _ (stated : IsStated x s) (more : M → Bool) (begun : ℕ) (is : IsTable t begun) (fs : List (Frame M)) (seat : Seat V M Q R) (a : Account Q R) (h : Holds x law s stated t more begun is fs seat a) where
    taken_gives : seat.side.now ≡ None → given serves (counting seat.start) h.carried.taken ≡ []
    taken_gives none = elim h.carried.rows [
      | inl u ↦ ap (given serves (counting seat.start)) u.none
      | inr r ↦ elim r.place [
        | inl k ↦ absurd (let no : Some k.row ≡ None = sym k.is ∙ none in cc)
        | inr k ↦ state_gives seat a none _ h.carried.taken h.carried.rest r k
      ]
    ]

    offered_none : seat.side.now ≡ None → seat.offered ≡ []
    offered_none none = (append_none seat.offered seat.slave.node.server.waiting (acts_none (seat.offered ++ seat.slave.node.server.waiting) (sym h.carried.gave ∙ taken_gives none))).0

    pub has_row : seat.side.halves.inn.state ≡ InState.Clear → (b : LinkMail M) → seat.slave.node.inn.box ≡ Some b → (r : Row M Q R) × (seat.side.now ≡ Some r)
    has_row clear b e = go seat.side.now refl
      where
        go : (now : Option (Row M Q R)) → seat.side.now ≡ now → (r : Row M Q R) × (now ≡ Some r)
        go (Some r) f = (r, refl)
        go None f = absurd (let no : Some b ≡ None = sym e ∙ box_none (link_of seat) seat.slave.node.inn.box refl h.agrees clear (offered_none f) in cc)
