-- Where a state service has drained all rows by mails are carried out.
use Rattle.std.proofs.Common.{◌≡◌, ◌⊎◌, inl, inr, ℕ, ◌+◌, Bool, Some, None, List, [], ◌∷◌, ◌++◌, refl, ap, sym, ◌∙◌, subst, arith, append-nil}
use Rattle.slave_parts.specs.of_exchange_model.Exchange.{Exchange, IsLawful, after}
use Rattle.slave_parts.specs.of_exchange_model.Rows.{services, told_all}
use Rattle.slave_parts.proofs.of_exchange_model.Settles.{settled_handled, settled_app}
use Rattle.slave_parts.proofs.of_exchange_model.Words.{after-append}
use Rattle.slave_parts.specs.of_segment_model.Record.{Frame}
use Rattle.slave_parts.specs.of_segment_model.Ends.{Outcome}
use Rattle.slave_parts.specs.of_segment_model.Seats.{Seat}
use Rattle.slave_parts.specs.of_state_model.States.{Table, Phase}
use Rattle.slave_parts.specs.of_state_model.Promises.{IsTable, state_behind}
use Rattle.slave_parts.specs.of_state_model.Stated.{Stated, IsStated, Act, Service, Counting, acts, states_in, with_states}
use Rattle.slave_parts.proofs.of_state_model.Acts.{executed}
use Rattle.slave_parts.proofs.of_state_model.StatedLaw.{stated_law}
use Rattle.slave_parts.specs.of_state_model.Accounts.{Account, Duty, Stage}
use Rattle.slave_parts.specs.of_state_model.Promise.{services_in, mails_in}
use Rattle.slave_parts.proofs.of_state_model.Ghosts.{GhostRow, counting, Staged, StagedBy, StateNow, Rowed, services_append}
use Rattle.slave_parts.proofs.of_state_model.Dones.{by_kind, services_same, services_length}
use Rattle.slave_parts.proofs.of_state_model.Stately.{state_over}
use Rattle.slave_parts.proofs.of_state_model.Newest.{Holds}

-- a state service at the end is none by mails
mails_before : {Q : Type 0} (qs : List (Service Q)) (target : ℕ) → mails_in (qs ++ Service.State target ∷ []) ≡ mails_in qs
mails_before [] target = refl
mails_before (Service.Mails q ∷ qs) target = let rest = mails_before qs target in omega (arith, rest)
mails_before (Service.State t ∷ qs) target = mails_before qs target

module _ {V A M Q R : Type 0} (x : Exchange V A M Q R) (law : IsLawful x) (s : Stated V A Q) (stated : IsStated x s) (table : Table) (more : M → Bool) (start : ℕ) (is : IsTable table start)
    (fs : List (Frame M)) (seat : Seat V M Q R) (a : Account Q R) (h : Holds x law s stated table more start is fs seat a) (duty : Duty) (hand : a.hand ≡ Some duty) (phase : Phase) (stage : duty.stage ≡ Stage.Goes phase) where
  abbrev both : Exchange (Counting V) (A × ℕ) (Act M) (Service Q) (Outcome R)
  both = with_states x s table

  abbrev at_start : Counting V
  at_start = counting seat.start

  abbrev AllDone : Type 0
  AllDone = x.handled seat.slave.node.server.server ≡ x.handled seat.start + mails_in (services_in a.started)

  rows_done : (r : Rowed x law s table (state_over table start a.over) seat a h.carried.taken h.carried.rest) → StateNow x law s table (state_over table start a.over) seat.slave.registers.state h.carried.rest seat.side a.hand (r.front ++ r.last) r.now → AllDone
  rows_done r n =
      let staged = subst (λ k. Staged table (state_over table start a.over) seat.slave.registers.state h.carried.rest seat.side.halves.out.holding n.target r.now.frame k r.now.told) hand n.stage in
      let goes = subst (λ k. StagedBy table (state_over table start a.over) seat.slave.registers.state h.carried.rest seat.side.halves.out.holding n.target k r.now.told) stage staged.2 in
      let taken : h.carried.taken ≡ told_all before ++ r.now.told = sym (append-nil h.carried.taken) ∙ ap (λ l. h.carried.taken ++ acts l) (sym goes.0) ∙ r.moment.fits.all_held in
      let same : x.handled (after both.serve at_start h.carried.taken).server ≡ x.handled w.server = ap (λ l. x.handled (after both.serve at_start l).server) taken ∙ by_word goes.1 in
      let counted = settled_handled both (stated_law x s table stated law) at_start before h.ready r.moment.fits.settled in
      let app = settled_app both (stated_law x s table stated law) at_start before h.ready r.moment.fits.settled in
      let words : w.words ≡ 0 + states_in (services before) = ap (λ (p : A × ℕ). p.1) app ∙ executed x s table (x.app seat.start) 0 (services before) in
      let kinds = by_kind (services before) in
      let long = services_length before in
      let qs : services_in a.started ≡ services before ++ Service.State n.target ∷ [] = ap services_in (sym r.started) ∙ sym (services_same (r.front ++ r.last ++ r.now ∷ [])) ∙ services_append before (r.now ∷ []) ∙ ap (λ q. services before ++ q ∷ []) n.service in
      let all : mails_in (services_in a.started) ≡ mails_in (services before) = ap mails_in qs ∙ mails_before (services before) n.target in
      let now : x.handled (after both.serve at_start h.carried.taken).server ≡ x.handled seat.slave.node.server.server = ap x.handled h.carried.serves in
      omega (arith, same, counted, words, kinds, long, all, now)
    where
      before : List (GhostRow M Q R)
      before = r.front ++ r.last

      w : Counting V
      w = after both.serve at_start (told_all before)

      by_word : ((r.now.told ≡ []) × (seat.slave.registers.state ≡ state_over table start a.over)) ⊎ ((r.now.told ≡ Act.Word n.target ∷ []) × (seat.slave.registers.state ≡ state_behind table (state_over table start a.over) n.target)) →
          x.handled (after both.serve at_start (told_all before ++ r.now.told)).server ≡ x.handled w.server
      by_word (inl e) = ap (λ l. x.handled (after both.serve at_start l).server) (ap (λ l. told_all before ++ l) e.0 ∙ append-nil (told_all before))
      by_word (inr e) =
          ap (λ l. x.handled (after both.serve at_start (told_all before ++ l)).server) e.0 ∙ ap (λ (c : Counting V). x.handled c.server) (after-append both.serve at_start (told_all before) (Act.Word n.target ∷ []))
          ∙ stated.handled (state_behind table (s.state (x.app w.server)) n.target) w.server

  pub drained : AllDone
  drained = elim h.carried.rows [
    | inl u ↦ absurd (let bad : None ≡ Some duty = sym u.hand ∙ hand in cc)
    | inr r ↦ elim r.place [
      | inl m ↦ absurd (let bad : None ≡ Some duty = sym m.free ∙ hand in cc)
      | inr n ↦ rows_done r n
    ]
  ]
