-- The AL state is a part of the application of the one exchange.
use Rattle.std.proofs.Common.{ℕ, [], false, refl}
use Rattle.protocol_models.specs.of_exchange_model.Exchange.{AnswersLast}
use Rattle.life_model.specs.of_state_model.Stated.{IsStated}
use Rattle.life_model.specs.of_state_model.Families.{states_of}
use Rattle.life_model.proofs.of_state_model.FamilyLaw.{family_is_stated}
use Rattle.protocol_models.proofs.of_exchange_model.Lasts.{lifted_last}
use Rattle.slave_model.proofs.CoeLast.{coe_last}
use Rattle.protocol_models.specs.CoeMails as CoeMails
use Rattle.protocol_models.specs.CoeOctets as CoeOctets
use Rattle.protocol_models.specs.FoeMails as FoeMails
use Rattle.protocol_models.specs.FoeOctets as FoeOctets
use Rattle.protocol_models.specs.SoeMails as SoeMails
use Rattle.protocol_models.specs.SoeOctets as SoeOctets
use Rattle.protocol_models.specs.EoeMails as EoeMails
use Rattle.protocol_models.specs.EoeOctets as EoeOctets
use Rattle.slave_model.specs.Profile.{Protocol, Profile, IsProfile, serves, areas_of}
use Rattle.slave_model.specs.Application.{Parts, ArePartsLawful, station_tables, station_files, station_elements, network}
use Rattle.slave_model.specs.Server.{heard_by, told_by}
use Rattle.slave_model.specs.Product.{served, refusal, side, slave, protocols, product}
use Rattle.slave_model.proofs.Stations.{tables_law, files_law, elements_law, network_sound}
use Rattle.slave_model.proofs.Sides.{told_spells, served_law, sized, coe_spelled, foe_spelled, soe_spelled, eoe_spelled}
use Rattle.slave_model.proofs.Joint.{side_of}
use Rattle.slave_model.proofs.Own.{are_own}
use Rattle.slave_model.proofs.LastLaw.{gated_last, joined_last}
use Rattle.protocol_models.proofs.FoeLasts.{foe_last}
use Rattle.protocol_models.proofs.SoeLasts.{soe_last}
use Rattle.slave_model.proofs.EoeLast.{eoe_last}
use Rattle.slave_model.proofs.ProductLaw.{refusals, one_client}
use Rattle.slave_model.specs.Acknowledged.{acknowledges, acknowledged}

module _ {T F I : Type 0} (o : Parts T F I) (law : ArePartsLawful o) (p : Profile) (is : IsProfile p) (al : ℕ) where
  served_last : (i : Protocol) → AnswersLast (served o p al i) (acknowledges i)
  served_last Protocol.CoE = lifted_last _ (heard_by CoeOctets.coe_mail_heard (CoeMails.other [])) (told_by CoeOctets.coe_mail_written) (told_spells _ CoeOctets.coe_mail_heard CoeOctets.coe_mail_written (CoeMails.other []) (coe_spelled o law p is al)) (λ q. false) (coe_last (station_tables o p.back al) (tables_law o law p.back al) p.has_eoe (areas_of p) (sized o law p is al))
  served_last Protocol.FoE = lifted_last _ (heard_by FoeOctets.foe_mail_heard (FoeMails.other [])) (told_by FoeOctets.foe_mail_written) (told_spells _ FoeOctets.foe_mail_heard FoeOctets.foe_mail_written (FoeMails.other []) (foe_spelled o law p is al)) _ (foe_last (station_files o al) (files_law o law al) (areas_of p) (sized o law p is al))
  served_last Protocol.SoE = lifted_last _ (heard_by SoeOctets.soe_mail_heard (SoeMails.other [])) (told_by SoeOctets.soe_mail_written) (told_spells _ SoeOctets.soe_mail_heard SoeOctets.soe_mail_written (SoeMails.other []) (soe_spelled o law p is al)) (λ q. false) (soe_last (station_elements o) (elements_law o law) (areas_of p) (sized o law p is al))
  served_last Protocol.EoE = lifted_last _ (heard_by EoeOctets.eoe_mail_heard (EoeMails.other [])) (told_by EoeOctets.eoe_mail_written) (told_spells _ EoeOctets.eoe_mail_heard EoeOctets.eoe_mail_written (EoeMails.other []) (eoe_spelled o law p is al)) (λ q. false) (eoe_last (network o p) (network_sound o law p) (areas_of p) (sized o law p is al))

  protocols_last : AnswersLast (protocols o p al) acknowledged
  protocols_last = joined_last (slave o p al) (side o p al) _ (λ i. side_of o p al i (are_own o law p is al i)) acknowledges
      (λ i. gated_last (served o p al i) (refusal o p al i) (served_law o law p is al i) (refusals o law p is al i) (acknowledges i) (served_last i) (serves p al i))

module _ {T F I : Type 0} (o : Parts T F I) (law : ArePartsLawful o) (p : Profile) (is : IsProfile p) where
  pub product_stated : IsStated (product o p) (states_of acknowledged)
  product_stated = family_is_stated (protocols o p)
      (record { client = one_client o law p is; app = λ al v. refl; handled = λ al v. refl; ready = λ al v. refl })
      acknowledged
      (λ al. protocols_last o law p is al)
