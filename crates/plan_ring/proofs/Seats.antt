-- What comes next of a slave's seat is due, with state services beside its services by mails.
use Rattle.std.proofs.Common.{◌≡◌, inl, inr, ℕ, true, false, Option, Some, None, option_map, List, [], ◌∷◌, ◌++◌, refl, sym, ap, ◌∙◌, subst}
use Rattle.slave_server.specs.of_exchange_model.Exchange.{Exchange, IsLawful, given, plain}
use Rattle.slave_server.specs.of_exchange_model.Prefix.{IsPrefixOf}
use Rattle.slave_server.specs.of_exchange_model.Rows.{Row, left}
use Rattle.slave_server.specs.of_slave_model.Hears.{HearsFirst}
use Rattle.slave_server.proofs.of_slave_model.HearsStates.{states_hears}
use Rattle.run_frames.specs.of_master_side.Due.{IsReply, IsAwaited}
use Rattle.slave_server.specs.of_segment_model.Ends.{Outcome}
use Rattle.slave_server.specs.of_segment_model.Laws.{as_outcome}
use Rattle.slave_server.specs.of_segment_model.Seats.{Seat}
use Rattle.slave_server.specs.of_state_model.Stated.{Stated, IsStated, Act, Service, Counting, acts, mails, all_mails, ends_by, service_ends, with_states}
use Rattle.run_frames.proofs.of_state_model.Acts.{acts_append, acts_same, acts_all, cut_mails, left_mails, plain_acts, mails_acts}
use Rattle.run_frames.proofs.of_state_model.StatedLaw.{stated_law}
use Rattle.slave_server.specs.of_state_model.States.{Table}
use Rattle.slave_server.specs.of_state_model.Accounts.{Account}
use Rattle.run_frames.proofs.of_state_model.Ghosts.{Carried, GhostRow, Rowed, Shows, counting}
use Rattle.plan_ring.proofs.Moments.{next_due}

-- no answer as an outcome is none
no_outcome : {R : Type 0} (answer : Option (R × ℕ)) → as_outcome answer ≡ None → answer ≡ None
no_outcome None e = refl
no_outcome (Some a) e = absurd (cc)

-- an outcome by mails is a reply
pub record ByMails {M R : Type 0} (x : List M → Option R) (hs : List (Act M)) : Type 0 where
  pub heard : List M
  pub is : hs ≡ acts heard
  pub reply : R
  pub ends : x heard ≡ Some reply

module _ {V A M Q R : Type 0} (x : Exchange V A M Q R) where
  reply_in : (found : Option R) (o : Outcome R) → option_map (λ r. Outcome.Replied r) found ≡ Some o → (r : R) × (found ≡ Some r)
  reply_in (Some r) o e = (r, refl)
  reply_in None o e = absurd (cc)

  by_mails : (q : Q) (hs : List (Act M)) (o : Outcome R) (found : Option (List M)) → all_mails hs ≡ found → ends_by x.speech q found ≡ Some o → ByMails (x.speech.ends q) hs
  by_mails q hs o (Some ms) is e = let r = reply_in (x.speech.ends q ms) o e in record { heard = ms; is = acts_all hs ms is; reply = r.0; ends = r.1 }
  by_mails q hs o None is e = absurd (cc)

module _ {V A M Q R : Type 0} (x : Exchange V A M Q R) (law : IsLawful x) (hears : HearsFirst x) (s : Stated V A Q) (stated : IsStated x s) (table : Table) (from : ℕ) (seat : Seat V M Q R) (a : Account Q R) (ready : x.ready seat.start ≡ true) (c : Carried x law s table from seat a)
    (b : M) (replies : x.speech.emission b ≡ false) (comes : IsPrefixOf (seat.accepted ++ b ∷ []) (seat.offered ++ seat.slave.node.server.waiting)) where
  abbrev both : Exchange (Counting V) (A × ℕ) (Act M) (Service Q) (Outcome R)
  both = with_states x s table

  abbrev Rows : Type 0
  Rows = Rowed x law s table from seat a c.taken c.rest

  comes_both : IsPrefixOf (acts seat.accepted ++ Act.Mail b ∷ []) (given both.serve (counting seat.start) c.taken)
  comes_both = (
    acts comes.0,
    ap (λ l. l ++ acts comes.0) (sym (acts_append seat.accepted (b ∷ []))) ∙ sym (acts_append (seat.accepted ++ b ∷ []) comes.0) ∙ ap acts comes.1 ∙ sym c.gave,
  )

  of_both : (g : Rows) → IsReply both.speech g.now (Act.Mail b)
  of_both g = next_due both (stated_law x s table stated law) (states_hears x s table hears) (counting seat.start) ready g.front g.last g.now (c.taken ++ acts c.rest) c.taken (acts seat.accepted) g.moment (Act.Mail b) replies comes_both

  -- by mails
  heard_in : (r : Row M Q R) (heard : List (Act M)) → heard ≡ acts r.heard → plain both.speech.emission heard ≡ acts (plain x.speech.emission r.heard)
  heard_in r heard e = ap (plain both.speech.emission) e ∙ plain_acts x.speech.emission r.heard

  by_row : (g : GhostRow M Q R) (r : Row M Q R) → Shows g r → IsReply both.speech g (Act.Mail b) → IsReply x.speech r b
  by_row g r h k =
      let hs = plain x.speech.emission r.heard in
      let heard : plain both.speech.emission g.heard ≡ acts hs = heard_in r g.heard h.heard in
      let over : ends_by x.speech r.service (all_mails (acts hs ++ Act.Mail b ∷ k.rest)) ≡ Some k.reply =
      ap (λ l. ends_by x.speech r.service (all_mails (l ++ Act.Mail b ∷ k.rest))) (sym heard)
      ∙ ap (λ q. service_ends x.speech q (plain both.speech.emission g.heard ++ Act.Mail b ∷ k.rest)) (sym h.service) ∙ k.ends in
      let m = by_mails x r.service (acts hs ++ Act.Mail b ∷ k.rest) k.reply (all_mails (acts hs ++ Act.Mail b ∷ k.rest)) refl over in
      let cut : m.heard ≡ hs ++ b ∷ mails k.rest = cut_mails m.heard (acts hs) (Act.Mail b ∷ k.rest) (sym m.is) ∙ ap (λ l. l ++ b ∷ mails k.rest) (mails_acts hs) in
      record {
        told = acts_same (left x.speech r) [] (sym (left_mails x s table g r h.service h.told h.heard) ∙ k.told);
        unanswered = no_outcome r.answer (sym h.answer ∙ k.unanswered);
        rest = mails k.rest;
        reply = m.reply;
        ends = ap (x.speech.ends r.service) (sym cut) ∙ m.ends;
      }

  -- by a state service none comes
  by_state : (g : GhostRow M Q R) (target : ℕ) → g.service ≡ Service.State target → IsReply both.speech g (Act.Mail b) → ⊥
  by_state g target service k =
      let over : service_ends x.speech (Service.State target) (plain both.speech.emission g.heard ++ Act.Mail b ∷ k.rest) ≡ Some k.reply =
      ap (λ q. service_ends x.speech q (plain both.speech.emission g.heard ++ Act.Mail b ∷ k.rest)) (sym service) ∙ k.ends in
      absurd (let no : None ≡ Some k.reply = over in cc)

  pub awaited : IsAwaited x.speech seat.side.now b
  awaited = elim c.rows [
    | inl u ↦ subst (λ z. IsAwaited x.speech z b) (sym u.now) tt
    | inr g ↦ elim g.place [
      | inl m ↦ subst (λ z. IsAwaited x.speech z b) (sym m.is) (by_row g.now m.row m.shows (of_both g))
      | inr n ↦ absurd (by_state g.now n.target n.service (of_both g))
    ]
  ]
