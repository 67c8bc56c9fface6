-- The client of a slave's one exchange hears first.
use Rattle.std.proofs.Common.{ℕ, []}
use Rattle.protocol_models.specs.CoeMails as CoeMails
use Rattle.protocol_models.specs.CoeOctets as CoeOctets
use Rattle.protocol_models.specs.FoeMails as FoeMails
use Rattle.protocol_models.specs.FoeOctets as FoeOctets
use Rattle.protocol_models.specs.SoeMails as SoeMails
use Rattle.protocol_models.specs.SoeOctets as SoeOctets
use Rattle.protocol_models.specs.EoeMails as EoeMails
use Rattle.protocol_models.specs.EoeOctets as EoeOctets
use Rattle.slave_model.specs.Profile.{Protocol, Profile, IsProfile, serves, areas_of}
use Rattle.slave_model.specs.Application.{Parts, ArePartsLawful, station_tables, station_files, station_elements, network}
use Rattle.slave_model.specs.Server.{heard_by, told_by}
use Rattle.slave_model.specs.Product.{served, refusal, side, slave, protocols, product}
use Rattle.slave_model.proofs.Stations.{tables_law, files_law, elements_law, network_sound}
use Rattle.slave_model.proofs.Sides.{told_spells, sized, coe_spelled, foe_spelled, soe_spelled, eoe_spelled}
use Rattle.slave_model.proofs.Joint.{side_of}
use Rattle.slave_model.proofs.Own.{are_own}
use Rattle.slave_model.proofs.ProductLaw.{refusals, one_client}
use Rattle.slave_model.specs.Hears.{HearsFirst}
use Rattle.slave_model.proofs.HearsForms.{lifted_hears, gated_hears, joined_hears, family_hears}
use Rattle.slave_model.proofs.HearsProtocols.{coe_hears, foe_hears, soe_hears, eoe_hears}

module _ {T F I : Type 0} (o : Parts T F I) (law : ArePartsLawful o) (p : Profile) (is : IsProfile p) (al : ℕ) where
  served_hears : (i : Protocol) → HearsFirst (served o p al i)
  served_hears Protocol.CoE = lifted_hears _ (heard_by CoeOctets.coe_mail_heard (CoeMails.other [])) (told_by CoeOctets.coe_mail_written)
      (told_spells _ CoeOctets.coe_mail_heard CoeOctets.coe_mail_written (CoeMails.other []) (coe_spelled o law p is al)) (coe_hears (station_tables o p.back al) (tables_law o law p.back al) p.has_eoe (areas_of p) (sized o law p is al))
  served_hears Protocol.FoE = lifted_hears _ (heard_by FoeOctets.foe_mail_heard (FoeMails.other [])) (told_by FoeOctets.foe_mail_written)
      (told_spells _ FoeOctets.foe_mail_heard FoeOctets.foe_mail_written (FoeMails.other []) (foe_spelled o law p is al)) (foe_hears (station_files o al) (files_law o law al) (areas_of p) (sized o law p is al))
  served_hears Protocol.SoE = lifted_hears _ (heard_by SoeOctets.soe_mail_heard (SoeMails.other [])) (told_by SoeOctets.soe_mail_written)
      (told_spells _ SoeOctets.soe_mail_heard SoeOctets.soe_mail_written (SoeMails.other []) (soe_spelled o law p is al)) (soe_hears (station_elements o) (elements_law o law) (areas_of p) (sized o law p is al))
  served_hears Protocol.EoE = lifted_hears _ (heard_by EoeOctets.eoe_mail_heard (EoeMails.other [])) (told_by EoeOctets.eoe_mail_written)
      (told_spells _ EoeOctets.eoe_mail_heard EoeOctets.eoe_mail_written (EoeMails.other []) (eoe_spelled o law p is al)) (eoe_hears (network o p) (network_sound o law p) (areas_of p) (sized o law p is al))

  protocols_hears : HearsFirst (protocols o p al)
  protocols_hears = joined_hears (slave o p al) (side o p al) _ (λ i. side_of o p al i (are_own o law p is al i))
      (λ i. gated_hears (served o p al i) (refusal o p al i) (refusals o law p is al i) (served_hears i) (serves p al i))

module _ {T F I : Type 0} (o : Parts T F I) (law : ArePartsLawful o) (p : Profile) (is : IsProfile p) where
  pub slave_hears : HearsFirst (product o p)
  slave_hears = family_hears (protocols o p) (one_client o law p is) (λ al. protocols_hears o law p is al)
