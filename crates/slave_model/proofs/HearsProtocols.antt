-- The client of each protocol hears first.
use Rattle.std.proofs.Common.{◌≡◌, suc, ◌+◌, ◌<◌, Bool, true, List, [], ◌∷◌, ◌++◌, length, refl, sym, ap, ◌∙◌, arith, append_assoc, length-append}
use Rattle.std.specs.Prelude.{drop}
use Rattle.protocol_models.specs.of_exchange_model.Areas.{Areas, AreMailboxes}
use Rattle.protocol_models.specs.of_exchange_model.Exchange.{after, given, plain}
use Rattle.protocol_models.proofs.of_exchange_model.Lists.{prefix_refl}
use Rattle.protocol_models.proofs.of_exchange_model.Words.{plain_given-append}
use Rattle.protocol_models.specs.CoeMails as CoeMails
use Rattle.protocol_models.specs.CoeMeaning as CoeMeaning
use Rattle.protocol_models.specs.CoeClient as CoeClient
use Rattle.protocol_models.specs.CoeServer as CoeServer
use Rattle.protocol_models.specs.Tables as Tables
use Rattle.protocol_models.specs.CoeModel as CoeModel
use Rattle.protocol_models.proofs.CoeLaw as CoeLaw
use Rattle.protocol_models.proofs.CoeSpeaks as CoeSpeaks
use Rattle.protocol_models.specs.FoeMails.{FoeMail, is_emission}
use Rattle.protocol_models.specs.Files.{Files, AreLawful}
use Rattle.protocol_models.specs.FoeServer.{Server}
use Rattle.protocol_models.specs.FoeMeaning.{Service}
use Rattle.protocol_models.specs.FoeClient.{mails_of, decide}
use Rattle.protocol_models.specs.FoeModel.{turns, planned, full, foe_exchange}
use Rattle.protocol_models.proofs.FoeLaw.{kept}
use Rattle.protocol_models.proofs.FoeCarries.{step, all_plain}
use Rattle.protocol_models.proofs.FoeSpeaks.{decided, replies_few}
use Rattle.protocol_models.specs.Elements as Elements
use Rattle.protocol_models.specs.SoeMails as SoeMails
use Rattle.protocol_models.specs.SoeModel.{soe_exchange}
use Rattle.protocol_models.proofs.SoeLaw as SoeLaw
use Rattle.protocol_models.specs.EoeMails as EoeMails
use Rattle.protocol_models.specs.EoeModel.{eoe_exchange}
use Rattle.protocol_models.specs.Network.{Network, IsSound}
use Rattle.protocol_models.proofs.EoeLaw as EoeLaw
use Rattle.slave_model.specs.Hears.{HearsFirst}
use Rattle.slave_model.proofs.Protocols.{planned_more, fewer_than}
use Rattle.slave_model.proofs.HearsDialogues.{drop_none, at_last, not_none, hears}

-- SoE and EoE: nothing comes before the last mail, and none is told behind it
module _ {S : Type 0} (o : Elements.Elements S) (law : Elements.AreLawful o) (areas : Areas) (sized : AreMailboxes areas) where
  pub soe_hears : HearsFirst (soe_exchange o areas)
  soe_hears v q ready valid p [] e hs b more comes = at_last _ p [] _ e refl (prefix_refl _)
  soe_hears v q ready valid p (h ∷ r) e hs b more comes =
      not_none hs b more (ap (plain SoeMails.is_emission) (sym ((SoeLaw.kept o law areas sized v q ready valid).late p h r e).given) ∙ comes)

module _ {S : Type 0} (o : Network S) (sound : IsSound o) (areas : Areas) (sized : AreMailboxes areas) where
  pub eoe_hears : HearsFirst (eoe_exchange o areas)
  eoe_hears v q ready valid p [] e hs b more comes = at_last _ p [] _ e refl (prefix_refl _)
  eoe_hears v q ready valid p (h ∷ r) e hs b more comes =
      not_none hs b more (ap (plain EoeMails.is_emission) (sym ((EoeLaw.kept o sound areas sized v q valid).late p h r e).given) ∙ comes)

-- CoE: an SDO client goes by the answers, and an information service has one mail
module _ {S : Type 0} (o : Tables.Tables S) (law : Tables.AreLawful o) (eoe : Bool) (areas : Areas) (sized : AreMailboxes areas) where
  abbrev serve : CoeServer.Server S → CoeMails.CoeMail → CoeServer.Server S × List CoeMails.CoeMail
  serve = CoeServer.serve o eoe areas.back

  abbrev heard : CoeServer.Server S → List CoeMails.CoeMail → List CoeMails.CoeMail
  heard v ms = plain CoeMails.is_emission (given serve v ms)

  abbrev Hears : CoeMeaning.Service → Type 0
  Hears q = (v : CoeServer.Server S) → o.valid v.app ≡ true → (p r : List CoeMails.CoeMail) → CoeModel.full o eoe areas v q ≡ p ++ r →
      (hs : List CoeMails.CoeMail) (b : CoeMails.CoeMail) (more : List CoeMails.CoeMail) → heard v p ≡ hs ++ b ∷ more → drop (length p) (CoeModel.planned areas.out q hs) ≡ []

  sdo_hears : (q : CoeMeaning.Service) → CoeLaw.IsSdo o law eoe areas sized q → Hears q
  sdo_hears q sdo v sound p r e hs b more comes =
      let n = CoeModel.turns o v.app q in
      let mails = CoeClient.mails_of areas.out q n in
      let later = heard (after serve v p) r in
      let all : heard v (CoeModel.full o eoe areas v q) ≡ hs ++ (b ∷ more ++ later) =
      ap (heard v) e ∙ plain_given-append serve CoeMails.is_emission v p r ∙ ap (λ l. l ++ later) comes ∙ append_assoc hs (b ∷ more) later in
      ap (drop (length p)) (CoeLaw.planned_more o law eoe areas sized q sdo n hs (CoeLaw.few_replies o law eoe areas sized v q sound sdo hs (b ∷ more ++ later) all))
      ∙ hears serve CoeMails.is_emission CoeClient.decide n v mails p r hs b more (CoeSpeaks.decided o eoe areas mails (CoeLaw.mails_all o law eoe areas sized q n sdo)) e comes

  ask_hears : (a : Tables.Ask) → Hears (CoeMeaning.information a)
  ask_hears a v sound [] r e hs b more comes = not_none hs b more comes
  ask_hears a v sound (k ∷ p) r e hs b more comes = ap (drop (suc (length p))) (CoeLaw.ask_planned o law eoe areas sized a hs) ∙ drop_none (length p)

  coe_by : (q : CoeMeaning.Service) → Hears q
  coe_by (CoeMeaning.download t bytes) = sdo_hears (CoeMeaning.download t bytes) tt
  coe_by (CoeMeaning.upload t) = sdo_hears (CoeMeaning.upload t) tt
  coe_by (CoeMeaning.information a) = ask_hears a

  pub coe_hears : HearsFirst (CoeModel.coe_exchange o eoe areas)
  coe_hears v q ready valid p r e hs b more comes = coe_by q v ready p r e hs b more comes

-- FoE
module _ {S : Type 0} (o : Files S) (law : AreLawful o) (areas : Areas) (sized : AreMailboxes areas) where
  few_replies : (v : Server S) (q : Service) → o.valid v.app ≡ true → (p r : List FoeMail) → full o areas v q ≡ p ++ r → (hs : List FoeMail) (b : FoeMail) (more : List FoeMail) → plain is_emission (given (step o areas) v p) ≡ hs ++ b ∷ more → length hs < turns o v.app q
  few_replies v q sound p r e hs b more comes =
      omega (arith, replies_few o areas v p, ap length (all_plain (given (step o areas) v p)), ap length comes, length-append hs (b ∷ more), ap length e, length-append p r, (kept o law areas sized v q sound).few, fewer_than o law areas sized v.app q)

  pub foe_hears : HearsFirst (foe_exchange o areas)
  foe_hears v q ready valid p r e hs b more comes =
      let n = turns o v.app q in
      let mails = mails_of areas.out q n in
      ap (drop (length p)) (planned_more o law areas sized q n hs (few_replies v q ready p r e hs b more comes))
      ∙ hears (step o areas) is_emission (decide areas.out) n v mails p r hs b more (decided o areas mails) e comes
