-- The newest row, where it is over, is whole.
use Rattle.std.proofs.Common.{◌≡◌, inl, inr, ℕ, Bool, true, Some, List, [], ◌∷◌, ◌++◌, ap, sym, ◌∙◌, subst}
use Rattle.slave_parts.specs.of_exchange_model.Exchange.{Exchange, IsLawful, after, given, plain}
use Rattle.slave_parts.specs.of_exchange_model.Rows.{Row, IsWhole, left, told_all}
use Rattle.slave_parts.proofs.of_exchange_model.Settles.{settled_ready}
use Rattle.slave_parts.proofs.of_exchange_model.Steps.{answered_whole, handed_whole}
use Rattle.slave_parts.specs.of_segment_model.Record.{Frame}
use Rattle.slave_parts.specs.of_segment_model.Ends.{Outcome}
use Rattle.slave_parts.specs.of_segment_model.Seats.{Seat, is_over}
use Rattle.slave_parts.specs.of_segment_model.Laws.{as_outcome}
use Rattle.slave_parts.proofs.of_segment_model.Overs.{over_parts}
use Rattle.slave_parts.specs.of_state_model.States.{Table}
use Rattle.slave_parts.specs.of_state_model.Promises.{IsTable}
use Rattle.slave_parts.specs.of_state_model.Stated.{Stated, IsStated, Act, Service, Counting, acts, act_emission, with_states, service_handed}
use Rattle.slave_parts.proofs.of_state_model.Acts.{acts_same, plain_acts, given_acts, left_mails}
use Rattle.slave_parts.proofs.of_state_model.StatedLaw.{stated_law}
use Rattle.slave_parts.specs.of_state_model.Accounts.{Account, Started}
use Rattle.slave_parts.proofs.of_state_model.Ghosts.{GhostRow, counting, start_of, starts_of, Shows, MailsNow, Rowed, starts_append}
use Rattle.slave_parts.proofs.of_state_model.Stately.{state_over}
use Rattle.slave_parts.proofs.of_state_model.Newest.{Holds}

module _ {V A M Q R : Type 0} (x : Exchange V A M Q R) (law : IsLawful x) (s : Stated V A Q) (stated : IsStated x s) (table : Table) where
  abbrev both : Exchange (Counting V) (A × ℕ) (Act M) (Service Q) (Outcome R)
  both = with_states x s table

  replied_same : (a b : R) → ◌≡◌ {A = Outcome R} (Outcome.Replied a) (Outcome.Replied b) → a ≡ b
  replied_same a b e = cc

  -- a row of the exchange of both is one of its mails
  shown_whole : (c : Counting V) (g : GhostRow M Q R) (r : Row M Q R) → Shows g r → IsWhole both c g → IsWhole x c.server r
  shown_whole c g r shows k = record {
    valid = subst (λ q. both.speech.valid q ≡ true) shows.service k.valid;
    told = told;
    heard =
        acts_same _ _ (sym (plain_acts x.speech.emission r.heard) ∙ ap (plain (act_emission x.speech.emission)) (sym shows.heard) ∙ k.heard ∙ ap (λ l. plain (act_emission x.speech.emission) (given both.serve c l)) shows.told
        ∙ ap (plain (act_emission x.speech.emission)) (given_acts x s table c r.told) ∙ plain_acts x.speech.emission (given x.serve c.server r.told));
    reply = λ answer e. replied_same answer.0 (x.reply (x.app c.server) r.service) (k.reply (Outcome.Replied answer.0, answer.1) (shown answer e) ∙ ap (both.reply (both.app c)) shows.service);
    by_reply = λ answer e. sym (ap (service_handed x.speech) shows.service) ∙ k.by_reply (Outcome.Replied answer.0, answer.1) (shown answer e);
  }
    where
      told : r.told ≡ x.full c.server r.service
      told = acts_same _ _ (sym shows.told ∙ k.told ∙ ap (both.full c) shows.service)

      shown : (answer : R × ℕ) → r.answer ≡ Some answer → g.answer ≡ Some (Outcome.Replied answer.0, answer.1)
      shown answer e = shows.answer ∙ ap as_outcome e

  module _ (more : M → Bool) (start : ℕ) (is : IsTable table start) (fs : List (Frame M)) (seat : Seat V M Q R) (a : Account Q R) (h : Holds x law s stated table more start is fs seat a) where
    -- the row with its server
    pub record WholeRow (r : Row M Q R) : Type 0 where
      pub server : V
      pub ready : x.ready server ≡ true
      pub whole : IsWhole x server r

    abbrev at_start : Counting V
    at_start = counting seat.start

    module _ (r : Row M Q R) (now : seat.side.now ≡ Some r) (before : List (Started Q)) (newest : a.started ≡ before ++ record { service = Service.Mails r.service; frame = r.frame } ∷ []) (over : is_over x.speech seat.side.halves.out.holding seat.side.fresh r ≡ true) where
      none_begun : (bs : List (Started Q)) (b : Started Q) → [] ≡ bs ++ b ∷ [] → ⊥
      none_begun [] b e = let bad : [] ≡ b ∷ [] = e in cc
      none_begun (c ∷ bs) b e = let bad : [] ≡ c ∷ (bs ++ b ∷ []) = e in cc

      last_same : (bs cs : List (Started Q)) (b c : Started Q) → bs ++ b ∷ [] ≡ cs ++ c ∷ [] → b ≡ c
      last_same [] [] b c e = cc
      last_same [] (d ∷ cs) b c e = absurd (none_begun cs c (let tail : [] ≡ cs ++ c ∷ [] = cc in tail))
      last_same (d ∷ bs) [] b c e = absurd (none_begun bs b (let tail : [] ≡ bs ++ b ∷ [] = cc in tail))
      last_same (d ∷ bs) (f ∷ cs) b c e = last_same bs cs b c (let tail : bs ++ b ∷ [] ≡ cs ++ c ∷ [] = cc in tail)

      by_mails : (g : Rowed x law s table (state_over table start a.over) seat a h.carried.taken h.carried.rest) → MailsNow seat.side a.hand (g.front ++ g.last) g.now → WholeRow r
      by_mails g m =
          let same : m.row ≡ r = (let some : Some m.row ≡ Some r = sym m.is ∙ now in cc) in
          let shows : Shows g.now r = subst (Shows g.now) same m.shows in
          let parts = over_parts x seat.side.halves.out.holding seat.side.fresh r over in
          let nothing : left both.speech g.now ≡ [] = left_mails x s table g.now r shows.service shows.told shows.heard ∙ ap acts parts.0 in
          let lawful = stated_law x s table stated law in
          let whole : IsWhole both (after both.serve at_start (told_all (g.front ++ g.last))) g.now = elim parts.1 [
            | inl p ↦ handed_whole both lawful at_start h.ready g.front g.last g.now (h.carried.taken ++ acts h.carried.rest) h.carried.taken (acts seat.accepted) g.moment.fits g.moment.order g.moment.hears (ap (service_handed x.speech) shows.service ∙ p.0) nothing
            | inr b ↦ (answered_whole both lawful at_start h.ready g.front g.last g.now (h.carried.taken ++ acts h.carried.rest) h.carried.taken (acts seat.accepted) g.moment.fits g.moment.order g.moment.hears
                (Outcome.Replied b.0.0.0, b.0.0.1) (shows.answer ∙ ap as_outcome b.0.1) nothing).0
          ] in
          record {
            server = (after both.serve at_start (told_all (g.front ++ g.last))).server;
            ready = settled_ready both lawful at_start (g.front ++ g.last) h.ready g.moment.fits.settled;
            whole = shown_whole (after both.serve at_start (told_all (g.front ++ g.last))) g.now r shows whole;
          }

      no_state : (g : Rowed x law s table (state_over table start a.over) seat a h.carried.taken h.carried.rest) (target : ℕ) → g.now.service ≡ Service.State target → ⊥
      no_state g target e =
          let split : starts_of (g.front ++ g.last) ++ start_of g.now ∷ [] ≡ before ++ record { service = Service.Mails r.service; frame = r.frame } ∷ [] = sym (starts_append (g.front ++ g.last) (g.now ∷ [])) ∙ g.started ∙ newest in
          let one = ap (λ (b : Started Q). b.service) (last_same (starts_of (g.front ++ g.last)) before (start_of g.now) (record { service = Service.Mails r.service; frame = r.frame }) split) in
          let clash : Service.State target ≡ Service.Mails r.service = sym e ∙ one in
          cc

      pub newest_whole : WholeRow r
      newest_whole = elim h.carried.rows [
        | inl u ↦ absurd (none_begun before (record { service = Service.Mails r.service; frame = r.frame }) (sym u.started ∙ newest))
        | inr g ↦ elim g.place [
          | inl m ↦ by_mails g m
          | inr n ↦ absurd (no_state g n.target n.service)
        ]
      ]
