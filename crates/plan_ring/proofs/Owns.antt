-- WHAT WAS HEARD of a slave is what it sends of itself, and the first of what its server replies to the services that came into hand.
use Rattle.std.proofs.Common.{◌≡◌, inl, inr, ℕ, Bool, List, [], ◌∷◌, ◌++◌, ap, sym, ◌∙◌, subst, append_assoc, append-nil}
use Rattle.std.specs.Prelude.{not}
use Rattle.slave_server.specs.of_exchange_model.Prefix.{IsPrefixOf}
use Rattle.slave_server.specs.of_exchange_model.Exchange.{Exchange, IsLawful, after, given, plain}
use Rattle.slave_server.specs.of_exchange_model.Laws.{Moment}
use Rattle.slave_server.specs.of_exchange_model.Rows.{Row, Settled, told_all, services}
use Rattle.slave_server.proofs.of_exchange_model.Lifting.{map_append}
use Rattle.slave_server.proofs.of_exchange_model.Lists.{filter_both, prefix_nil, prefix_trans}
use Rattle.slave_server.proofs.of_exchange_model.Words.{after-append, plain_given-append, given_part}
use Rattle.slave_server.proofs.of_link_model.Law.{accepted_of_offered}
use Rattle.slave_server.specs.of_segment_model.Ends.{Outcome}
use Rattle.slave_server.specs.of_segment_model.Record.{Frame, heard}
use Rattle.slave_server.specs.of_segment_model.Seats.{Seat, link_of}
use Rattle.slave_server.specs.of_state_model.Promises.{IsTable}
use Rattle.slave_server.specs.of_state_model.States.{Table}
use Rattle.slave_server.specs.of_state_model.Stated.{Stated, IsStated, Act, Service, Counting, acts, mails, with_states}
use Rattle.run_frames.proofs.of_state_model.Acts.{acts_same, mails_acts, mails_append, plain_acts}
use Rattle.slave_server.specs.of_state_model.Accounts.{Account}
use Rattle.slave_server.specs.of_state_model.Promise.{services_in}
use Rattle.run_frames.proofs.of_state_model.Begins.{accepted_begin}
use Rattle.run_frames.proofs.of_state_model.Dones.{services_same}
use Rattle.run_frames.proofs.of_state_model.Ghosts.{counting, Rowed, Untouched}
use Rattle.run_frames.proofs.of_state_model.Newest.{Holds}
use Rattle.run_frames.proofs.of_state_model.Stately.{state_over}
use Rattle.plan_ring.specs.Epochs.{replies_all}

-- ---- rows of one exchange
module _ {V A M Q R : Type 0} (x : Exchange V A M Q R) where
  abbrev replies_given : V → List M → List M
  replies_given v ms = plain x.speech.emission (given x.serve v ms)

  -- rows that are over, and all mails of one service more: all replies to their services
  replies_last : (v : V) (rs : List (Row M Q R)) (q : Q) → Settled x v rs →
      replies_given v (told_all rs ++ x.full (after x.serve v (told_all rs)) q) ≡ replies_all x v (services rs ++ q ∷ [])
  replies_last v [] q settled = sym (append-nil (replies_given v (x.full v q)))
  replies_last v (r ∷ rs) q settled =
      let w = after x.serve v r.told in
      let last = x.full (after x.serve w (told_all rs)) q in
      let told = settled.0.told in
      ap (λ u. replies_given v ((r.told ++ told_all rs) ++ x.full u q)) (after-append x.serve v r.told (told_all rs))
      ∙ ap (replies_given v) (append_assoc r.told (told_all rs) last)
      ∙ plain_given-append x.serve x.speech.emission v r.told (told_all rs ++ last)
      ∙ ap (λ ms. replies_given v r.told ++ ms) (replies_last w rs q settled.1)
      ∙ ap (λ ms. replies_given v ms ++ replies_all x (after x.serve v ms) (services rs ++ q ∷ [])) told

  -- what was accepted but for emissions is the first of all replies
  moment_replies : (v : V) (front last : List (Row M Q R)) (now : Row M Q R) (held taken accepted : List M) → Moment x v front last now held taken accepted →
      IsPrefixOf (plain x.speech.emission accepted) (replies_all x v (services (front ++ last ++ now ∷ [])))
  moment_replies v front last now held taken accepted at =
      let past = front ++ last in
      let full = x.full (after x.serve v (told_all past)) now.service in
      let mine = at.fits.mine in
      let within : IsPrefixOf held (told_all past ++ full) = (mine.0, ap (λ l. l ++ mine.0) at.fits.all_held ∙ append_assoc (told_all past) now.told mine.0 ∙ ap (λ l. told_all past ++ l) mine.1) in
      let all : IsPrefixOf accepted (given x.serve v (told_all past ++ full)) =
      prefix_trans accepted (given x.serve v taken) _ at.hears (given_part x.serve v taken (told_all past ++ full) (prefix_trans taken held _ at.order within)) in
      let those : services (past ++ now ∷ []) ≡ services past ++ now.service ∷ [] = map_append (λ (r : Row M Q R). r.service) past (now ∷ []) in
      subst (λ qs. IsPrefixOf (plain x.speech.emission accepted) (replies_all x v qs)) (sym those)
      (subst (IsPrefixOf (plain x.speech.emission accepted)) (replies_last v past now.service at.fits.settled) (filter_both (λ m. not (x.speech.emission m)) accepted _ all))

-- the mails of a first part are a first part of the mails
mails_first : {M : Type 0} (few all : List (Act M)) → IsPrefixOf few all → IsPrefixOf (mails few) (mails all)
mails_first few all p = (mails p.0, sym (mails_append few p.0) ∙ ap mails p.1)

-- ---- a slave of a session
module _ {V A M Q R : Type 0} (x : Exchange V A M Q R) (law : IsLawful x) (s : Stated V A Q) (stated : IsStated x s) (table : Table) (more : M → Bool) (start : ℕ) (is : IsTable table start)
    (fs : List (Frame M)) (seat : Seat V M Q R) (a : Account Q R) where
  abbrev both : Exchange (Counting V) (A × ℕ) (Act M) (Service Q) (Outcome R)
  both = with_states x s table

  -- what it heard is its own
  abbrev pub Owns : Type 0
  Owns = IsPrefixOf (plain x.speech.emission (heard seat.station fs)) (mails (replies_all both (counting seat.start) (services_in a.started)))

  as_heard : (h : Holds x law s stated table more start is fs seat a) → IsPrefixOf (plain x.speech.emission seat.accepted) (mails (replies_all both (counting seat.start) (services_in a.started))) → Owns
  as_heard h p = subst (λ l. IsPrefixOf (plain x.speech.emission l) (mails (replies_all both (counting seat.start) (services_in a.started)))) h.records.hears p

  -- before the first service nothing was accepted
  none_yet : (h : Holds x law s stated table more start is fs seat a) → Untouched x law s table seat a h.carried.taken → Owns
  none_yet h u =
      let c = h.carried in
      let none : acts seat.accepted ≡ [] = prefix_nil (acts seat.accepted) (subst (IsPrefixOf (acts seat.accepted)) (ap (given both.serve (counting seat.start)) u.none)
      (accepted_begin seat.accepted seat.offered seat.slave.node.server.waiting (given both.serve (counting seat.start) c.taken) c.gave (accepted_of_offered (link_of seat) h.agrees))) in
      as_heard h (_, ap (λ ms. plain x.speech.emission ms ++ mails (replies_all both (counting seat.start) (services_in a.started))) (acts_same seat.accepted [] none))

  rowed : (h : Holds x law s stated table more start is fs seat a) → Rowed x law s table (state_over table start a.over) seat a h.carried.taken h.carried.rest → Owns
  rowed h r =
      let gs = r.front ++ r.last ++ r.now ∷ [] in
      let replies = replies_all both (counting seat.start) (services gs) in
      let first = moment_replies both (counting seat.start) r.front r.last r.now (h.carried.taken ++ acts h.carried.rest) h.carried.taken (acts seat.accepted) r.moment in
      let plainly : mails (plain both.speech.emission (acts seat.accepted)) ≡ plain x.speech.emission seat.accepted = ap mails (plain_acts x.speech.emission seat.accepted) ∙ mails_acts (plain x.speech.emission seat.accepted) in
      let those : services gs ≡ services_in a.started = services_same gs ∙ ap services_in r.started in
      as_heard h
      (subst (λ qs. IsPrefixOf (plain x.speech.emission seat.accepted) (mails (replies_all both (counting seat.start) qs))) those
      (subst (λ l. IsPrefixOf l (mails replies)) plainly (mails_first _ replies first)))

  pub owned : Holds x law s stated table more start is fs seat a → Owns
  owned h = elim h.carried.rows [ inl u ↦ none_yet h u | inr r ↦ rowed h r ]
