-- Each mail of a service brings a reply at last, but for the acknowledgement of a file that is read, whatever server it meets.
use Rattle.std.proofs.Common.{◌&&◌, Bool, true, false, [], ◌∷◌, refl, sym, ap, ◌∙◌}
use Rattle.idn_table.specs.of_exchange_model.Areas.{Areas, AreMailboxes}
use Rattle.idn_table.specs.of_exchange_model.Exchange.{Exchange, AnswersLast, given, outnumbers, plain}
use Rattle.idn_table.specs.of_exchange_model.Refusing.{Refusal}
use Rattle.idn_table.specs.of_exchange_model.Sides.{Slave}
use Rattle.idn_table.proofs.of_exchange_model.Refusals.{all_taken}
use Rattle.serving_model.specs.Tagged.{IsServed}
use Rattle.slave_parts.specs.Whole.{refusing_whole, gated_whole, IsRefusedWhole}
use Rattle.slave_parts.specs.Sides.{IsWholeSide, joined_whole}
use Rattle.slave_parts.proofs.JoinedLaw.{plain_whole, mine_full, mine_part, told_full, told_part}
use Rattle.eoe_server.specs.of_protocol_models.Elements.{Elements, AreLawful}
use Rattle.eoe_server.specs.of_protocol_models.SoeMails.{is_emission}
use Rattle.eoe_server.specs.of_protocol_models.SoeClient.{ends}
use Rattle.slave_parts.specs.SoeServed.{soe_served}
use Rattle.slave_parts.proofs.ServedLaw.{kept, soe_is_served}

module _ {S : Type 0} (o : Elements S) (lawful : AreLawful o) (areas : Areas) (sized : AreMailboxes areas) where
  pub soe_last : AnswersLast (soe_served o areas) (λ q. false)
  soe_last v q fine valid answers quiet p [] e same = refl
  soe_last v q fine valid answers quiet p (h ∷ r) e same =
      let l = soe_is_served o lawful areas sized in
      let idle = (kept o lawful areas sized v q).late p h r e in
      let whole = l.replied v q fine valid refl in
      let begun = ap (ends q) (ap (plain is_emission) (sym idle.given) ∙ same) ∙ whole in
      let none = l.none q in
      absurd (cc)

module _ {V M Q R C : Type 0} (x : Exchange V V M Q R) (core : V → C) (r : Refusal V M Q R) (law : IsServed x core) (is : IsRefusedWhole x core r) (acknowledged : Q → Bool) where
  refused_last : AnswersLast (refusing_whole x r) acknowledged
  refused_last v q ready valid answers quiet p rest e same = (all_taken r x.speech is.plain v q answers (is.asked q valid) p rest e same).1

  pub gated_last : AnswersLast x acknowledged → (b : Bool) → AnswersLast (gated_whole b x r) acknowledged
  gated_last last true = last
  gated_last last false = refused_last

module _ {I J C M R : Type 0} {V Q : I → Type 0} (s : Slave J C M) (x : (i : I) → Exchange (V i) (V i) M (Q i) R) (core : (i : I) → V i → C) (seat : (i : I) → J → V i) (reseat : (i : I) → J → V i → J)
    (side : (i : I) → IsWholeSide s (x i) (core i) (seat i) (reseat i)) (acknowledged : (i : I) → Q i → Bool) (last : (i : I) → AnswersLast (x i) (acknowledged i)) where
  pub joined_last : AnswersLast (joined_whole s x seat reseat) (λ q. acknowledged q.0 q.1)
  joined_last j q ready valid answers quiet p rest e same =
      let i = q.0 in
      let mine = mine_part s (x i) (core i) (seat i) (reseat i) (side i) j q.1 ready valid p rest e in
      let part = told_part s (x i) (core i) (seat i) (reseat i) (side i) j q.1 ready valid p rest e in
      let mails = mine_full s (x i) (core i) (seat i) (reseat i) (side i) j q.1 ready valid in
      let all = told_full s (x i) (core i) (seat i) (reseat i) (side i) j q.1 ready valid in
      let whole = plain_whole s (x i) (core i) (seat i) (reseat i) (side i) j ((x i).full (seat i j) q.1) mails all in
      last i (seat i j) q.1 ((side i).ready j ready) valid answers (ap (λ l. acknowledged i q.1 && outnumbers ((x i).full (seat i j) q.1) l) (sym whole) ∙ quiet) p rest e
      (sym (plain_whole s (x i) (core i) (seat i) (reseat i) (side i) j p mine part) ∙ same ∙ whole)
