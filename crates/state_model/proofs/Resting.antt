-- With nothing left all services of a slave are carried out, each has its outcome, and all emissions were heard.
use Rattle.std.proofs.Common.{◌≡◌, inl, inr, ℕ, ◌+◌, Bool, true, Some, None, option_map, List, [], ◌∷◌, ◌++◌, length, ap, sym, ◌∙◌, subst, arith, append-nil}
use Rattle.segment_model.specs.of_exchange_model.Exchange.{Exchange, IsLawful, after, given, emitted}
use Rattle.segment_model.specs.of_exchange_model.Rows.{Row, Rest, left, services, exec_all, emits_all}
use Rattle.segment_model.proofs.of_exchange_model.Lists.{append_cancel}
use Rattle.segment_model.proofs.of_exchange_model.Moments
use Rattle.segment_model.specs.Record.{Frame}
use Rattle.segment_model.specs.Ends.{Outcome}
use Rattle.segment_model.specs.Seats.{Seat, link_of}
use Rattle.segment_model.specs.Laws.{IsSettled, WantsNothing}
use Rattle.segment_model.proofs.Overs.{over_parts}
use Rattle.segment_model.proofs.Rests.{all_taken, all_offered}
use Rattle.state_model.specs.States.{Table}
use Rattle.state_model.specs.Promises.{IsTable}
use Rattle.state_model.specs.Stated.{Stated, IsStated, Act, Service, Counting, acts, mails, states_in, with_states, service_handed}
use Rattle.state_model.proofs.Acts.{mails_acts, emitted_acts, left_mails, left_none, executed}
use Rattle.state_model.proofs.StatedLaw.{stated_law}
use Rattle.state_model.specs.Accounts.{Account, is_free}
use Rattle.state_model.specs.Promise.{TasksRest, services_in}
use Rattle.state_model.proofs.Ghosts.{GhostRow, counting, starts_of, MailsNow, StateNow, Staged, Rowed, Untouched}
use Rattle.state_model.proofs.Stately.{state_over}
use Rattle.state_model.proofs.Newest.{Holds, free_side, ended_free}
use Rattle.state_model.proofs.Dones.{by_kind, services_same, services_length}

module _ {V A M Q R : Type 0} (x : Exchange V A M Q R) (law : IsLawful x) (s : Stated V A Q) (stated : IsStated x s) (table : Table) (more : M → Bool) (start : ℕ) (is : IsTable table start)
    (fs : List (Frame M)) (seat : Seat V M Q R) (a : Account Q R) (h : Holds x law s stated table more start is fs seat a) (settled : IsSettled seat.slave) (wants : WantsNothing x.speech seat.side) (idle : a.hand ≡ None) where
  abbrev both : Exchange (Counting V) (A × ℕ) (Act M) (Service Q) (Outcome R)
  both = with_states x s table

  abbrev at_start : Counting V
  at_start = counting seat.start

  free : is_free x.speech seat.side seat.side.now ≡ true
  free = free_side x law s stated table more start is fs seat a seat.side.now wants.nothing

  -- all acts held are taken, and all that was given is accepted
  none_left : h.carried.rest ≡ []
  none_left = append_cancel seat.taken h.carried.rest [] (sym h.carried.held_is ∙ sym (all_taken (link_of seat) h.agrees settled.first wants.idle) ∙ sym (append-nil seat.taken))

  all_heard : acts seat.accepted ≡ given both.serve at_start h.carried.taken
  all_heard =
      ap acts (sym (all_offered (link_of seat) h.agrees wants.clear settled.second settled.withdrawn) ∙ sym (append-nil seat.offered) ∙ ap (λ l. seat.offered ++ l) (sym settled.waiting))
      ∙ sym h.carried.gave

  abbrev Rested : List (GhostRow M Q R) → Type 0
  Rested gs = Rest both at_start gs (after both.serve at_start h.carried.taken) (acts seat.accepted)

  rest_first : Untouched x law s table seat a h.carried.taken → Rested []
  rest_first u =
      let start : after both.serve at_start h.carried.taken ≡ at_start = ap (after both.serve at_start) u.none in
      record {
        handled = ap both.handled start ∙ omega arith;
        app = ap both.app start;
        emissions = ap (emitted both.speech.emission) (all_heard ∙ ap (given both.serve at_start) u.none);
      }

  rest_rows : (r : Rowed x law s table (state_over table start a.over) seat a h.carried.taken h.carried.rest) → Rested (r.front ++ r.last ++ r.now ∷ [])
  rest_rows r = elim r.place [ inl m ↦ by_mails m | inr n ↦ by_state n ]
    where
      held : List (Act M)
      held = h.carried.taken ++ acts h.carried.rest

      same : h.carried.taken ≡ held
      same = sym (append-nil h.carried.taken) ∙ ap (λ l. h.carried.taken ++ acts l) (sym none_left)

      answer : (row : Row M Q R) → r.now.answer ≡ option_map (λ (b : R × ℕ). (Outcome.Replied b.0, b.1)) row.answer → (b : R × ℕ) → row.answer ≡ Some b → r.now.answer ≡ Some (Outcome.Replied b.0, b.1)
      answer row shows b e = shows ∙ ap (λ o. option_map (λ (c : R × ℕ). (Outcome.Replied c.0, c.1)) o) e

      by_mails : MailsNow seat.side a.hand (r.front ++ r.last) r.now → Rested (r.front ++ r.last ++ r.now ∷ [])
      by_mails m =
          let parts = over_parts x seat.side.halves.out.holding seat.side.fresh m.row (sym (ap (is_free x.speech seat.side) m.is) ∙ free) in
          let nothing : left both.speech r.now ≡ [] = left_mails x s table r.now m.row m.shows.service m.shows.told m.shows.heard ∙ ap acts parts.0 in
          elim parts.1 [
            | inl p ↦ Moments.rest_handed both (stated_law x s table stated law) at_start h.ready r.front r.last r.now held h.carried.taken (acts seat.accepted) r.moment (ap (service_handed x.speech) m.shows.service ∙ p.0) nothing same all_heard
            | inr b ↦ Moments.rest_answered both (stated_law x s table stated law) at_start h.ready r.front r.last r.now held h.carried.taken (acts seat.accepted) r.moment (Outcome.Replied b.0.0.0, b.0.0.1) (answer m.row m.shows.answer b.0.0 b.0.1) nothing same all_heard
          ]

      by_state : StateNow x law s table (state_over table start a.over) seat.slave.registers.state h.carried.rest seat.side a.hand (r.front ++ r.last) r.now → Rested (r.front ++ r.last ++ r.now ∷ [])
      by_state n =
          let over : (h.carried.rest ≡ []) × (r.now.told ≡ Act.Word n.target ∷ []) =
          subst (λ k. Staged table (state_over table start a.over) seat.slave.registers.state h.carried.rest seat.side.halves.out.holding n.target r.now.frame k r.now.told) idle n.stage in
          Moments.rest_handed both (stated_law x s table stated law) at_start h.ready r.front r.last r.now held h.carried.taken (acts seat.accepted) r.moment (ap (service_handed x.speech) n.service)
          (left_none x s table r.now n.target (Act.Word n.target) [] n.service over.1) same all_heard

  rest_of : (gs : List (GhostRow M Q R)) → starts_of gs ≡ a.started → Rested gs → TasksRest x s table more fs seat.station seat.start seat.side a seat.slave
  rest_of gs started r =
      let qs : services gs ≡ services_in a.started = services_same gs ∙ ap services_in started in
      let w = after both.serve at_start h.carried.taken in
      let size : length gs ≡ length (services_in a.started) = sym (services_length gs) ∙ ap length qs in
      let done : both.app w ≡ exec_all both (x.app seat.start, 0) (services_in a.started) = r.app ∙ ap (exec_all both (x.app seat.start, 0)) qs in
      let words : w.words ≡ 0 + states_in (services_in a.started) = ap (λ (p : A × ℕ). p.1) done ∙ executed x s table (x.app seat.start) 0 (services_in a.started) in
      let kinds = by_kind (services_in a.started) in
      let handled = r.handled in
      record {
        app = ap x.app (sym h.carried.serves) ∙ ap (λ (p : A × ℕ). p.0) done;
        handled = ap x.handled (sym h.carried.serves) ∙ omega (arith, size, words, kinds, handled);
        ended = ended_free x law s stated table more start is fs seat a h idle wants.nothing;
        emissions = ap (emitted x.speech.emission) (sym h.records.hears)
            ∙ sym (ap mails (emitted_acts x.speech.emission seat.accepted) ∙ mails_acts (emitted x.speech.emission seat.accepted))
            ∙ ap mails r.emissions ∙ ap (λ l. mails (emits_all both (x.app seat.start, 0) l)) qs;
      }

  pub rests : TasksRest x s table more fs seat.station seat.start seat.side a seat.slave
  rests = elim h.carried.rows [
    | inl u ↦ rest_of [] (sym u.started) (rest_first u)
    | inr r ↦ rest_of (r.front ++ r.last ++ r.now ∷ []) r.started (rest_rows r)
  ]
