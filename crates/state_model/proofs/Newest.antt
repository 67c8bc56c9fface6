-- What is kept of a slave's seat and account, and when its newest service is over.
use Rattle.std.proofs.Common.{◌≡◌, ◌⊎◌, inl, inr, ℕ, Bool, true, false, is_some, Option, Some, None, List, [], ◌∷◌, ◌++◌, refl, ap, sym, ◌∙◌, subst}
use Rattle.segment_model.specs.of_exchange_model.Exchange.{Exchange, IsLawful}
use Rattle.segment_model.specs.of_exchange_model.Rows.{Row}
use Rattle.segment_model.specs.Record.{Frame}
use Rattle.segment_model.specs.Ends.{Outcome}
use Rattle.segment_model.specs.Seats.{Seat, newest, rows_of, is_over}
use Rattle.segment_model.specs.Laws.{AllAnswered, NowHanded, NothingInHand}
use Rattle.segment_model.proofs.Overs.{over_parts}
use Rattle.segment_model.proofs.Sounds.{SeatAgrees}
use Rattle.segment_model.proofs.Kept.{Records, rows_answered}
use Rattle.segment_model.proofs.Handed.{NowFacts, Posts, now_handed}
use Rattle.segment_model.proofs.Ended.{row_ended, behind}
use Rattle.state_model.specs.States.{Table}
use Rattle.state_model.specs.Promises.{IsTable}
use Rattle.state_model.specs.Stated.{Stated, IsStated, Service, acts}
use Rattle.state_model.specs.Accounts.{Started, Account, is_free}
use Rattle.state_model.specs.Promise.{state_found, AllEnded}
use Rattle.state_model.proofs.Ghosts.{start_of, starts_of, Rested, MailsNow, StateNow, Rowed, Carried, starts_append}
use Rattle.state_model.proofs.Begins.{mails_facts}
use Rattle.state_model.proofs.TaskOrders.{StatesEnded, ended_last}
use Rattle.state_model.proofs.Stately.{Stately, state_over, started_ended}
use Rattle.state_model.proofs.Completed.{HasOutcome, LastOver, Completed, last_over, all_ended}
use Rattle.state_model.proofs.Replies.{mails_outcome}

some_is : {X : Type 0} (found : Option X) → is_some found ≡ true → (o : X) × (found ≡ Some o)
some_is None e = absurd (cc)
some_is (Some o) e = (o, refl)

module _ {V A M Q R : Type 0} (x : Exchange V A M Q R) (law : IsLawful x) (s : Stated V A Q) (stated : IsStated x s) (table : Table) (more : M → Bool) (start : ℕ) (is : IsTable table start)
    (fs : List (Frame M)) (seat : Seat V M Q R) (a : Account Q R) where
  -- WHAT IS KEPT OF A SLAVE, turn by turn
  pub record Holds : Type 0 where
    pub ready : x.ready seat.start ≡ true
    pub agrees : SeatAgrees x seat
    pub begun : s.state (x.app seat.start) ≡ start
    pub stately : Stately table start is seat.station fs seat.slave.registers a
    pub carried : Carried x law s table (state_over table start a.over) seat a
    pub records : Records x law fs seat
    pub posts : Posts x law seat.station fs seat.side
    pub completed : Completed x more seat.station fs a.started

  -- each answer by mails is the one that the record gives
  pub answered : Holds → AllAnswered x.speech more seat.station fs (rows_of seat.side)
  answered h = rows_answered x law more seat.station fs seat.side.past seat.side.now h.records.listens.past h.records.listens.now

  rested_facts : (now : Option (Row M Q R)) → Rested x law seat.side.past now → NowFacts x law seat.side.past now
  rested_facts None h = h
  rested_facts (Some r) h = λ posts. (elim h.done [
    | inl b ↦ absurd (let no : false ≡ true = sym b.1 ∙ posts in cc)
    | inr b ↦ b.1
  ])

  -- what is known of a newest row by mails that ends with its last write
  pub side_facts : x.ready seat.start ≡ true → (from : ℕ) → Carried x law s table from seat a → NowFacts x law seat.side.past seat.side.now
  side_facts ready from c = elim c.rows [
    | inl u ↦ subst (NowFacts x law seat.side.past) (sym u.now) u.past
    | inr r ↦ elim r.place [
      | inl m ↦ subst (NowFacts x law seat.side.past) (sym m.is) (λ posts. mails_facts x law s table stated seat.start ready r.front r.last r.now (c.taken ++ acts c.rest) c.taken (acts seat.accepted) r.moment m.row m.shows posts)
      | inr n ↦ rested_facts seat.side.now n.rested
    ]
  ]

  handed : Holds → NowHanded x.speech more seat.station fs seat.side seat.side.now
  handed h = now_handed x law more seat.station fs seat.side (side_facts h.ready (state_over table start a.over) h.carried) h.posts

  row_over : Holds → (r : Row M Q R) → seat.side.now ≡ Some r → is_over x.speech seat.side.halves.out.holding seat.side.fresh r ≡ true → (o : Outcome R × ℕ) × (mails_outcome x more seat.station fs r.service r.frame ≡ Some o)
  row_over h r e over =
      let told : AllAnswered x.speech more seat.station fs (r ∷ []) = subst (λ n. AllAnswered x.speech more seat.station fs (newest n)) e (behind x law more seat.station fs seat.side.past (newest seat.side.now) (answered h)) in
      let written = subst (NowHanded x.speech more seat.station fs seat.side) e (handed h) in
      let kind : ((answer : R × ℕ) × (r.answer ≡ Some answer)) ⊎ (x.speech.handed r.service ≡ true) = elim (over_parts x seat.side.halves.out.holding seat.side.fresh r over).1 [ inl p ↦ inr p.0 | inr p ↦ inl p.0 ] in
      some_is (mails_outcome x more seat.station fs r.service r.frame) (row_ended x law more seat.station fs r told.0 (λ posts. written posts ∙ over) kind)

  change_over : Holds → (target frame : ℕ) (before : List (Started Q)) → a.started ≡ before ++ record { service = Service.State target; frame = frame } ∷ [] → a.hand ≡ None →
      (o : Outcome R × ℕ) × (state_found x.speech more seat.station fs target frame ≡ Some o)
  change_over h target frame before e none = ended_last x more seat.station fs before (record { service = Service.State target; frame = frame })
      (subst (StatesEnded x more seat.station fs) e (started_ended table start is seat.station x more fs seat.slave.registers a h.stately none))

  rows_over : (h : Holds) → a.hand ≡ None → is_free x.speech seat.side seat.side.now ≡ true → (r : Rowed x law s table (state_over table start a.over) seat a h.carried.taken h.carried.rest) → LastOver x more seat.station fs a.started
  rows_over h none free r = subst (LastOver x more seat.station fs) (sym split) (last_over x more seat.station fs (starts_of (r.front ++ r.last)) (start_of r.now) (has r.place))
    where
      split : a.started ≡ starts_of (r.front ++ r.last) ++ start_of r.now ∷ []
      split = sym r.started ∙ starts_append (r.front ++ r.last) (r.now ∷ [])

      as_start : (service : Service Q) (frame : ℕ) → r.now.service ≡ service → r.now.frame ≡ frame → start_of r.now ≡ record { service = service; frame = frame }
      as_start service frame e f = λ i. record { service = e i; frame = f i }

      has : MailsNow seat.side a.hand (r.front ++ r.last) r.now ⊎ StateNow x law s table (state_over table start a.over) seat.slave.registers.state h.carried.rest seat.side a.hand (r.front ++ r.last) r.now →
          HasOutcome x more seat.station fs (start_of r.now)
      has (inl m) = subst (HasOutcome x more seat.station fs) (sym (as_start (Service.Mails m.row.service) m.row.frame m.shows.service m.shows.frame)) (row_over h m.row m.is (sym (ap (is_free x.speech seat.side) m.is) ∙ free))
      has (inr n) =
          let same = as_start (Service.State n.target) r.now.frame n.service refl in
          subst (HasOutcome x more seat.station fs) (sym same) (change_over h n.target r.now.frame (starts_of (r.front ++ r.last)) (split ∙ ap (λ b. starts_of (r.front ++ r.last) ++ b ∷ []) same) none)

  -- with no state service in hand and the newest row by mails over, the newest service has its outcome
  pub newest_over : Holds → a.hand ≡ None → is_free x.speech seat.side seat.side.now ≡ true → LastOver x more seat.station fs a.started
  newest_over h none free = elim h.carried.rows [
    | inl u ↦ subst (LastOver x more seat.station fs) (sym u.started) tt
    | inr r ↦ rows_over h none free r
  ]

  -- nothing in hand by mails leaves the side free
  pub free_side : (now : Option (Row M Q R)) → NothingInHand x.speech seat.side now → is_free x.speech seat.side now ≡ true
  free_side None n = refl
  free_side (Some r) n = n

  -- so with nothing in hand all services have their outcomes
  pub ended_free : Holds → a.hand ≡ None → NothingInHand x.speech seat.side seat.side.now → AllEnded x.speech more seat.station fs a.started
  ended_free h none nothing = all_ended x more seat.station fs a.started h.completed (newest_over h none (free_side seat.side.now nothing))
