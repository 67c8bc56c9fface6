-- What SoE answers to a service has spellings, whatever join stood before.
use Rattle.std.proofs.Common.{◌≡◌, ℕ, zero, suc, ◌≤◌, ◌&&◌, nat_le, Bool, true, false, List, [], ◌∷◌, ◌++◌, take, length, None, refl, sym, ap, ◌∙◌, subst, arith, le-leb}
use Rattle.std.proofs.lemmas.List.{take_all}
use Rattle.idn_table.specs.of_exchange_model.Areas.{Areas, AreMailboxes}
use Rattle.idn_table.specs.of_exchange_model.Exchange.{given}
use Rattle.idn_table.specs.of_exchange_model.Lifted.{EachOf, ReadsBack, Spells}
use Rattle.eoe_server.specs.of_protocol_models.Elements.{Elements, AreLawful}
use Rattle.eoe_server.specs.of_protocol_models.SoeServer.{Server, serve, most}
use Rattle.eoe_server.specs.of_protocol_models.SoeClient.{Service, read, write, is_service, is_target, mails_of}
use Rattle.eoe_server.specs.of_protocol_models.SoeModel.{is_ready}
use Rattle.eoe_server.specs.of_protocol_models.SoeOctets.{soe_mail_heard, soe_mail_written}
use Rattle.idn_table.proofs.of_protocol_models.SoeCarries.{answer_to}
use Rattle.idn_table.proofs.of_protocol_models.SoeLaw.{both_are}
use Rattle.idn_table.proofs.of_protocol_models.SoeSpelled.{soe_spells}
use Rattle.slave_parts.specs.SoeServed.{ahead_of, soe_served}
use Rattle.slave_parts.proofs.ServedLaw.{gives, kept}

both : (a b : Bool) → a ≡ true → b ≡ true → (a && b) ≡ true
both true true p q = refl
both true false p q = absurd (cc)
both false b p q = absurd (cc)

take_few : (n : ℕ) (l : List ℕ) → length (take n l) ≤ n
take_few zero l = omega arith
take_few (suc n) [] = omega arith
take_few (suc n) (x ∷ l) = omega (arith, take_few n l)

module _ {S : Type 0} (o : Elements S) (lawful : AreLawful o) (areas : Areas) (sized : AreMailboxes areas) where
  -- the same server without a join, and the service with the octets of the join
  abbrev alone : Server S → Server S
  alone v = record v { join = None }

  abbrev with_join : Server S → Service → Service
  with_join v (read t) = read t
  with_join v (write t bytes) = write t (take most (ahead_of v.join t ++ bytes))

  is_alone : (v : Server S) → o.valid v.app ≡ true → is_ready o (alone v) ≡ true
  is_alone v fine = both (o.valid v.app) true fine refl

  still_valid : (v : Server S) (q : Service) → is_service q ≡ true → is_service (with_join v q) ≡ true
  still_valid v (read t) valid = valid
  still_valid v (write t bytes) valid =
      let few : length (take most (ahead_of v.join t ++ bytes)) ≤ most = take_few most (ahead_of v.join t ++ bytes) in
      both (is_target t) (nat_le (length (take most (ahead_of v.join t ++ bytes))) most) (both_are (is_target t) (nat_le (length bytes) most) valid).0 (le-leb (length (take most (ahead_of v.join t ++ bytes))) most few)

  gives_alone : (v : Server S) (q : Service) → gives o lawful areas sized (alone v) (with_join v q) ≡ gives o lawful areas sized v q
  gives_alone v (read t) = refl
  gives_alone v (write t bytes) =
      ap (λ l. answer_to t (o.write v.app t l)) (take_all most (take most (ahead_of v.join t ++ bytes)) (take_few most (ahead_of v.join t ++ bytes)))

  given_alone : (v : Server S) (q : Service) → given (serve o areas.back) (alone v) (mails_of areas.out (with_join v q)) ≡ given (serve o areas.back) v (mails_of areas.out q)
  given_alone v q = (kept o lawful areas sized (alone v) (with_join v q)).given ∙ gives_alone v q ∙ sym (kept o lawful areas sized v q).given

  pub served_spells : Spells (soe_served o areas) soe_mail_heard soe_mail_written
  served_spells = record {
    told = λ v q fine valid. (soe_spells o lawful areas sized).told (alone v) q (is_alone v fine) valid;
    answered = λ v q fine valid. subst (EachOf (ReadsBack soe_mail_heard soe_mail_written)) (given_alone v q)
        ((soe_spells o lawful areas sized).answered (alone v) (with_join v q) (is_alone v fine) (still_valid v q valid));
  }
