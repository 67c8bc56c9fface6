-- With all replies heard, all mails of a service were taken: each brings a reply at least.
use Rattle.std.proofs.Common.{◌≡◌, Bool, true, List, [], ◌∷◌, ◌++◌, length, Some, refl, ap, ◌∙◌, subst, arith, length-append}
use Rattle.exchange_model.specs.Areas.{Areas, AreMailboxes}
use Rattle.exchange_model.specs.Exchange.{given, plain}
use Rattle.exchange_model.proofs.Lasts.{each_front}
use Rattle.protocol_models.specs.CoeMails.{CoeMail, is_emission}
use Rattle.protocol_models.specs.Tables.{Ask, Tables, AreLawful}
use Rattle.protocol_models.specs.CoeServer.{Server, serve}
use Rattle.protocol_models.specs.CoeMeaning.{Service, download, upload, information, meaning_of}
use Rattle.protocol_models.specs.CoeClient.{ends}
use Rattle.protocol_models.specs.CoeModel.{full}
use Rattle.protocol_models.proofs.CoeSpeaks.{AllRequests, is_request, replies_counted}
use Rattle.protocol_models.proofs.CoeLaw.{IsSdo, kept, full_all, ask_full}

module _ {S : Type 0} (o : Tables S) (law : AreLawful o) (eoe : Bool) (areas : Areas) (sized : AreMailboxes areas) where
  -- an SDO service has as many replies as mails
  sdo_last : (v : Server S) (q : Service) → IsSdo o law eoe areas sized q → (p r : List CoeMail) → full o eoe areas v q ≡ p ++ r →
      plain is_emission (given (serve o eoe areas.back) v p) ≡ plain is_emission (given (serve o eoe areas.back) v (full o eoe areas v q)) → r ≡ []
  sdo_last v q sdo p [] e same = refl
  sdo_last v q sdo p (h ∷ r) e same =
      let all = full_all o law eoe areas sized v q sdo in
      let front = each_front (λ m. is_request m ≡ true) p (h ∷ r) (subst AllRequests e all) in
      absurd (omega (arith, replies_counted o eoe areas v p front, replies_counted o eoe areas v (full o eoe areas v q) all, ap length same, ap length e, length-append p (h ∷ r)))

  -- an information service has one mail, without which there is no reply
  ask_last : (v : Server S) (a : Ask) → o.valid v.app ≡ true → (p r : List CoeMail) → full o eoe areas v (information a) ≡ p ++ r →
      plain is_emission (given (serve o eoe areas.back) v p) ≡ plain is_emission (given (serve o eoe areas.back) v (full o eoe areas v (information a))) → r ≡ []
  ask_last v a sound [] r e same = absurd (let replied : ends areas.out (information a) [] ≡ Some (meaning_of o eoe v.app (information a)).reply =
      ap (ends areas.out (information a)) same ∙ (kept o law eoe areas sized v (information a) sound).replied in cc)
  ask_last v a sound (k ∷ p) [] e same = refl
  ask_last v a sound (k ∷ p) (h ∷ r) e same =
      absurd (omega (arith, ap length (ask_full o law eoe areas sized v a), ap length e, length-append p (h ∷ r)))

  pub none_behind : (v : Server S) (q : Service) → o.valid v.app ≡ true → (p r : List CoeMail) → full o eoe areas v q ≡ p ++ r →
      plain is_emission (given (serve o eoe areas.back) v p) ≡ plain is_emission (given (serve o eoe areas.back) v (full o eoe areas v q)) → r ≡ []
  none_behind v (download t bytes) sound p r e same = sdo_last v (download t bytes) tt p r e same
  none_behind v (upload t) sound p r e same = sdo_last v (upload t) tt p r e same
  none_behind v (information a) sound p r e same = ask_last v a sound p r e same
