-- Each protocol, served or refused, keeps the laws.
use Rattle.std.proofs.Common.{ℕ, List, [], ◌∷◌}
use Rattle.link_mails.specs.of_mailbox_mail.declared.mail.Mail.{Mail}
use Rattle.protocol_models.specs.of_exchange_model.Areas.{AreMailboxes}
use Rattle.protocol_models.specs.of_exchange_model.Exchange.{Exchange, IsLawful, given}
use Rattle.protocol_models.specs.of_exchange_model.Lifted.{EachOf, ReadsBack, Spells}
use Rattle.protocol_models.proofs.of_exchange_model.Lifting.{lifted_law}
use Rattle.protocol_models.specs.CoeMails as CoeMails
use Rattle.protocol_models.specs.CoeModel as CoeModel
use Rattle.protocol_models.specs.CoeOctets as CoeOctets
use Rattle.protocol_models.proofs.CoeLaw.{coe_law}
use Rattle.protocol_models.proofs.CoeSpelled.{coe_spells}
use Rattle.protocol_models.specs.FoeMails as FoeMails
use Rattle.protocol_models.specs.FoeModel as FoeModel
use Rattle.protocol_models.specs.FoeOctets as FoeOctets
use Rattle.protocol_models.proofs.FoeLaw.{foe_law}
use Rattle.protocol_models.proofs.FoeSpelled.{foe_spells}
use Rattle.protocol_models.specs.SoeModel as SoeModel
use Rattle.protocol_models.specs.SoeOctets as SoeOctets
use Rattle.protocol_models.specs.SoeMails as SoeMails
use Rattle.protocol_models.proofs.SoeLaw.{soe_law}
use Rattle.protocol_models.proofs.SoeSpelled.{soe_spells}
use Rattle.protocol_models.specs.EoeModel as EoeModel
use Rattle.protocol_models.specs.EoeOctets as EoeOctets
use Rattle.protocol_models.specs.EoeMails as EoeMails
use Rattle.protocol_models.proofs.EoeLaw.{eoe_law}
use Rattle.protocol_models.proofs.EoeSpelled.{eoe_spells}
use Rattle.slave_model.specs.Profile.{Protocol, Profile, IsProfile, areas_of}
use Rattle.slave_model.specs.Application.{Parts, ArePartsLawful, station_tables, station_files, station_elements, network}
use Rattle.slave_model.specs.Server.{heard_by, told_by}
use Rattle.slave_model.specs.Product.{served}
use Rattle.slave_model.proofs.Stations.{tables_law, tables_spelled, files_law, files_spelled, elements_law, network_sound, network_spelled}

-- what is read back from a mail is read back from what the link has of it
each_told : {X : Type 0} (read : Mail → X) (write : X → Mail) (nothing : X) (ms : List X) → EachOf (ReadsBack read write) ms → EachOf (ReadsBack (heard_by read nothing) (told_by write)) ms
each_told read write nothing [] all = tt
each_told read write nothing (m ∷ ms) all = (all.0, each_told read write nothing ms all.1)

pub told_spells : {V A X Q R : Type 0} (x : Exchange V A X Q R) (read : Mail → X) (write : X → Mail) (nothing : X) → Spells x read write → Spells x (heard_by read nothing) (told_by write)
told_spells x read write nothing s = record {
  told = λ v q r k. each_told read write nothing (x.full v q) (s.told v q r k);
  answered = λ v q r k. each_told read write nothing (given x.serve v (x.full v q)) (s.answered v q r k);
}

module _ {T F I : Type 0} (o : Parts T F I) (law : ArePartsLawful o) (p : Profile) (is : IsProfile p) (al : ℕ) where
  pub sized : AreMailboxes (areas_of p)
  sized = record { out_least = is.out_least; out_most = is.out_most; back_least = is.back_least; back_most = is.back_most }

  pub coe_spelled : Spells (CoeModel.coe_exchange (station_tables o p.back al) p.has_eoe (areas_of p)) CoeOctets.coe_mail_heard CoeOctets.coe_mail_written
  coe_spelled = coe_spells (station_tables o p.back al) (tables_law o law p.back al) (tables_spelled o law p.back al) p.has_eoe (areas_of p) sized

  pub foe_spelled : Spells (FoeModel.foe_exchange (station_files o al) (areas_of p)) FoeOctets.foe_mail_heard FoeOctets.foe_mail_written
  foe_spelled = foe_spells (station_files o al) (files_law o law al) (files_spelled o law al) (areas_of p) sized

  pub soe_spelled : Spells (SoeModel.soe_exchange (station_elements o) (areas_of p)) SoeOctets.soe_mail_heard SoeOctets.soe_mail_written
  soe_spelled = soe_spells (station_elements o) (elements_law o law) (areas_of p) sized

  pub eoe_spelled : Spells (EoeModel.eoe_exchange (network o p) (areas_of p)) EoeOctets.eoe_mail_heard EoeOctets.eoe_mail_written
  eoe_spelled = eoe_spells (network o p) (network_sound o law p) (network_spelled o law p is) (areas_of p) sized

  pub served_law : (i : Protocol) → IsLawful (served o p al i)
  served_law Protocol.CoE = lifted_law _ _ _ (coe_law (station_tables o p.back al) (tables_law o law p.back al) p.has_eoe (areas_of p) sized) (told_spells _ CoeOctets.coe_mail_heard CoeOctets.coe_mail_written (CoeMails.other []) coe_spelled)
  served_law Protocol.FoE = lifted_law _ _ _ (foe_law (station_files o al) (files_law o law al) (areas_of p) sized) (told_spells _ FoeOctets.foe_mail_heard FoeOctets.foe_mail_written (FoeMails.other []) foe_spelled)
  served_law Protocol.SoE = lifted_law _ _ _ (soe_law (station_elements o) (elements_law o law) (areas_of p) sized) (told_spells _ SoeOctets.soe_mail_heard SoeOctets.soe_mail_written (SoeMails.other []) soe_spelled)
  served_law Protocol.EoE = lifted_law _ _ _ (eoe_law (network o p) (network_sound o law p) (areas_of p) sized) (told_spells _ EoeOctets.eoe_mail_heard EoeOctets.eoe_mail_written (EoeMails.other []) eoe_spelled)
