-- The client of a slave's one exchange never waits in vain.
use Rattle.std.proofs.Common.{◌≡◌, ℕ, Bool, true, false, List, [], ◌∷◌, map, take, refl, if◌then◌else◌}
use Rattle.protocol_models.specs.of_exchange_model.Dialogue.{said}
use Rattle.protocol_models.specs.CoeServer.{is_expedited}
use Rattle.protocol_models.specs.CoeMails as CoeMails
use Rattle.protocol_models.specs.CoeOctets as CoeOctets
use Rattle.protocol_models.specs.CoeClient as CoeClient
use Rattle.protocol_models.specs.CoeMeaning as CoeMeaning
use Rattle.protocol_models.specs.FoeMails as FoeMails
use Rattle.protocol_models.specs.FoeOctets as FoeOctets
use Rattle.protocol_models.specs.FoeMeaning as FoeMeaning
use Rattle.protocol_models.specs.SoeMails as SoeMails
use Rattle.protocol_models.specs.SoeOctets as SoeOctets
use Rattle.protocol_models.specs.EoeMails as EoeMails
use Rattle.protocol_models.specs.EoeOctets as EoeOctets
use Rattle.slave_model.specs.Profile.{Protocol, Profile, IsProfile, serves, areas_of}
use Rattle.slave_model.specs.Application.{Parts, ArePartsLawful, station_tables, station_files, station_elements, network}
use Rattle.slave_model.specs.Server.{heard_by, told_by}
use Rattle.slave_model.specs.Product.{served, refusal, side, slave, protocols, product}
use Rattle.slave_model.proofs.Stations.{tables_law, files_law}
use Rattle.slave_model.proofs.Sides.{told_spells, sized, coe_spelled, foe_spelled, soe_spelled, eoe_spelled}
use Rattle.slave_model.proofs.Joint.{side_of}
use Rattle.slave_model.proofs.Own.{are_own}
use Rattle.slave_model.proofs.ProductLaw.{refusals, one_client}
use Rattle.slave_model.specs.Waits.{NeverWaits, TellsAll}
use Rattle.slave_model.proofs.Forms.{lifted_never, gated_never, joined_never, family_never}
use Rattle.slave_model.proofs.Protocols.{coe_never, foe_never, soe_never, eoe_never}

-- the first mail of a download
download_tells : (b : Bool) (m n : CoeMails.CoeMail) (rest : List CoeMails.CoeMail) → map (told_by CoeOctets.coe_mail_written) (said CoeClient.decide 1 (if b then m ∷ [] else n ∷ rest) []) ≡ take 1 (map (told_by CoeOctets.coe_mail_written) (if b then m ∷ [] else n ∷ rest))
download_tells true m n rest = refl
download_tells false m n rest = refl

module _ {T F I : Type 0} (o : Parts T F I) (law : ArePartsLawful o) (p : Profile) (is : IsProfile p) (al : ℕ) where
  served_never : (i : Protocol) → NeverWaits (served o p al i)
  served_never Protocol.CoE = lifted_never _ (heard_by CoeOctets.coe_mail_heard (CoeMails.other [])) (told_by CoeOctets.coe_mail_written) (told_spells _ CoeOctets.coe_mail_heard CoeOctets.coe_mail_written (CoeMails.other []) (coe_spelled o law p is al)) (coe_never (station_tables o p.back al) p.has_eoe (areas_of p) (tables_law o law p.back al) (sized o law p is al))
  served_never Protocol.FoE = lifted_never _ (heard_by FoeOctets.foe_mail_heard (FoeMails.other [])) (told_by FoeOctets.foe_mail_written) (told_spells _ FoeOctets.foe_mail_heard FoeOctets.foe_mail_written (FoeMails.other []) (foe_spelled o law p is al)) (foe_never (station_files o al) (files_law o law al) (areas_of p) (sized o law p is al))
  served_never Protocol.SoE = lifted_never _ (heard_by SoeOctets.soe_mail_heard (SoeMails.other [])) (told_by SoeOctets.soe_mail_written) (told_spells _ SoeOctets.soe_mail_heard SoeOctets.soe_mail_written (SoeMails.other []) (soe_spelled o law p is al)) (soe_never (station_elements o) (areas_of p))
  served_never Protocol.EoE = lifted_never _ (heard_by EoeOctets.eoe_mail_heard (EoeMails.other [])) (told_by EoeOctets.eoe_mail_written) (told_spells _ EoeOctets.eoe_mail_heard EoeOctets.eoe_mail_written (EoeMails.other []) (eoe_spelled o law p is al)) (eoe_never (network o p) (areas_of p))

  -- where a protocol isn't served, its client tells one mail, or all that it has
  coe_tells : (q : CoeMeaning.Service) → (served o p al Protocol.CoE).speech.planned q [] ≡ (refusal o p al Protocol.CoE).asked q
  coe_tells (CoeMeaning.download t bytes) = download_tells (is_expedited bytes) _ _ _
  coe_tells (CoeMeaning.upload t) = refl
  coe_tells (CoeMeaning.information a) = refl

  foe_tells : (q : FoeMeaning.Service) → (served o p al Protocol.FoE).speech.planned q [] ≡ (refusal o p al Protocol.FoE).asked q
  foe_tells (FoeMeaning.read name pass) = refl
  foe_tells (FoeMeaning.write name pass bytes) = refl

  all_tell : (i : Protocol) → TellsAll (served o p al i) (refusal o p al i)
  all_tell Protocol.CoE q valid = coe_tells q
  all_tell Protocol.FoE q valid = foe_tells q
  all_tell Protocol.SoE q valid = refl
  all_tell Protocol.EoE q valid = refl

  protocols_never : NeverWaits (protocols o p al)
  protocols_never = joined_never (slave o p al) (side o p al) _ (λ i. side_of o p al i (are_own o law p is al i))
      (λ i. gated_never (served o p al i) (refusal o p al i) (refusals o law p is al i) (all_tell i) (served_never i) (serves p al i))

module _ {T F I : Type 0} (o : Parts T F I) (law : ArePartsLawful o) (p : Profile) (is : IsProfile p) where
  pub slave_never : NeverWaits (product o p)
  slave_never = family_never (protocols o p) (one_client o law p is) (λ al. protocols_never o law p is al)
