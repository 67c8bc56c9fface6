-- Each protocol of a slave, served or refused, from whatever server.
use Rattle.std.proofs.Common.{ℕ, [], refl, sym, ◌∙◌}
use Rattle.idn_table.specs.of_exchange_model.Lifted.{Spells}
use Rattle.serving_model.specs.Tagged.{IsServed}
use Rattle.slave_parts.specs.Whole.{IsRefusedWhole}
use Rattle.slave_parts.proofs.SpelledLaw.{spelled_served}
use Rattle.slave_parts.proofs.RefusedLaw.{gated_served}
use Rattle.eoe_server.specs.of_protocol_models.CoeMails as CoeMails
use Rattle.eoe_server.specs.of_protocol_models.CoeOctets as CoeOctets
use Rattle.eoe_server.specs.of_protocol_models.FoeMails as FoeMails
use Rattle.eoe_server.specs.of_protocol_models.FoeOctets as FoeOctets
use Rattle.eoe_server.specs.of_protocol_models.SoeMails as SoeMails
use Rattle.eoe_server.specs.of_protocol_models.SoeOctets as SoeOctets
use Rattle.eoe_server.specs.of_protocol_models.EoeMails as EoeMails
use Rattle.eoe_server.specs.of_protocol_models.EoeOctets as EoeOctets
use Rattle.slave_parts.specs.CoeServed as Coe
use Rattle.slave_parts.proofs.CoeServedLaw.{coe_is_served}
use Rattle.slave_parts.specs.FoeServed as Foe
use Rattle.slave_parts.proofs.FoeServedLaw.{foe_is_served}
use Rattle.slave_parts.specs.SoeServed as Soe
use Rattle.slave_parts.proofs.ServedLaw.{soe_is_served}
use Rattle.slave_parts.specs.EoeServed as Eoe
use Rattle.slave_parts.proofs.EoeServedLaw.{eoe_is_served}
use Rattle.slave_model.specs.Profile.{Protocol, Profile, IsProfile, serves, areas_of}
use Rattle.slave_model.specs.Application.{Parts, ArePartsLawful, core_valid, station_valid, station_tables, station_files, station_elements, network}
use Rattle.slave_model.specs.Server.{heard_by, told_by}
use Rattle.slave_model.specs.Product.{refusal}
use Rattle.slave_model.proofs.Stations.{both, left_of, right_of, tables_law, files_law, elements_law, network_sound}
use Rattle.slave_model.proofs.Sides.{told_spells, sized, coe_spelled, foe_spelled, eoe_spelled}
use Rattle.slave_model.proofs.ProductLaw.{refusals}
use Rattle.slave_parts.specs.Served.{core_of, served_whole, side_whole, AreFilesServed}
use Rattle.slave_parts.proofs.SoeSpelled.{served_spells}

module _ {T F I : Type 0} (o : Parts T F I) (law : ArePartsLawful o) (files : AreFilesServed o) (p : Profile) (is : IsProfile p) (al : ℕ) where
  -- a station stays one of which the laws speak where a file is written, whatever its name
  pub files_stay : Foe.StaysValid (station_files o al)
  files_stay = record {
    put = λ s name bytes fine room.
        let objects = left_of ((o.tables 0).valid s.app.objects) _ (left_of (core_valid o s.app) _ fine) in
        let others = right_of ((o.tables 0).valid s.app.objects) _ (left_of (core_valid o s.app) _ fine) in
        let kept = left_of ((o.files 0).valid s.app.files) _ others in
        let idns = right_of ((o.files 0).valid s.app.files) _ others in
        both _ _ (both _ _ objects (both _ _ (sym (law.files_one al _) ∙ files.put al s.app.files name bytes (law.files_one al s.app.files ∙ kept) room) idns)) (right_of (core_valid o s.app) _ fine);
  }

  pub coe_fine : Spells (Coe.coe_served (station_tables o p.back al) p.has_eoe (areas_of p)) CoeOctets.coe_mail_heard CoeOctets.coe_mail_written
  coe_fine = record { told = (coe_spelled o law p is al).told; answered = (coe_spelled o law p is al).answered }

  pub foe_fine : Spells (Foe.foe_served (station_files o al) (areas_of p)) FoeOctets.foe_mail_heard FoeOctets.foe_mail_written
  foe_fine = record {
    told = λ v q ready valid. (foe_spelled o law p is al).told v q (left_of (station_valid o v.app) _ ready) valid;
    answered = λ v q ready valid. (foe_spelled o law p is al).answered v q (left_of (station_valid o v.app) _ ready) valid;
  }

  pub eoe_fine : Spells (Eoe.eoe_served (network o p) (areas_of p)) EoeOctets.eoe_mail_heard EoeOctets.eoe_mail_written
  eoe_fine = record { told = (eoe_spelled o law p is al).told; answered = (eoe_spelled o law p is al).answered }

  pub each_served : (i : Protocol) → IsServed (served_whole o p al i) (core_of T F I i)
  each_served Protocol.CoE = spelled_served _ Coe.tables_of (heard_by CoeOctets.coe_mail_heard (CoeMails.other [])) (told_by CoeOctets.coe_mail_written)
      (coe_is_served (station_tables o p.back al) (tables_law o law p.back al) p.has_eoe (areas_of p) (sized o law p is al)) (told_spells _ CoeOctets.coe_mail_heard CoeOctets.coe_mail_written (CoeMails.other []) coe_fine)
  each_served Protocol.FoE = spelled_served _ Foe.files_of (heard_by FoeOctets.foe_mail_heard (FoeMails.other [])) (told_by FoeOctets.foe_mail_written)
      (foe_is_served (station_files o al) (files_law o law al) files_stay (areas_of p) (sized o law p is al)) (told_spells _ FoeOctets.foe_mail_heard FoeOctets.foe_mail_written (FoeMails.other []) foe_fine)
  each_served Protocol.SoE = spelled_served _ Soe.table_of (heard_by SoeOctets.soe_mail_heard (SoeMails.other [])) (told_by SoeOctets.soe_mail_written)
      (soe_is_served (station_elements o) (elements_law o law) (areas_of p) (sized o law p is al))
      (told_spells _ SoeOctets.soe_mail_heard SoeOctets.soe_mail_written (SoeMails.other []) (served_spells (station_elements o) (elements_law o law) (areas_of p) (sized o law p is al)))
  each_served Protocol.EoE = spelled_served _ Eoe.station_of (heard_by EoeOctets.eoe_mail_heard (EoeMails.other [])) (told_by EoeOctets.eoe_mail_written)
      (eoe_is_served (network o p) (network_sound o law p) (areas_of p) (sized o law p is al)) (told_spells _ EoeOctets.eoe_mail_heard EoeOctets.eoe_mail_written (EoeMails.other []) eoe_fine)

  pub each_refused : (i : Protocol) → IsRefusedWhole (served_whole o p al i) (core_of T F I i) (refusal o p al i)
  each_refused Protocol.CoE =
      let r = refusals o law p is al Protocol.CoE in
      record { core_is = λ v. refl; handled = λ v. refl; ready = λ v e. e; plain = r.plain; asked = r.asked; ends = r.ends; begins = r.begins; sends = r.sends; posts = r.posts }
  each_refused Protocol.FoE =
      let r = refusals o law p is al Protocol.FoE in
      record { core_is = λ v. refl; handled = λ v. refl; ready = λ v e. e; plain = r.plain; asked = r.asked; ends = r.ends; begins = r.begins; sends = r.sends; posts = r.posts }
  each_refused Protocol.SoE =
      let r = refusals o law p is al Protocol.SoE in
      record { core_is = λ v. refl; handled = λ v. refl; ready = λ v e. e; plain = r.plain; asked = r.asked; ends = r.ends; begins = r.begins; sends = r.sends; posts = r.posts }
  each_refused Protocol.EoE =
      let r = refusals o law p is al Protocol.EoE in
      record { core_is = λ v. refl; handled = λ v. refl; ready = λ v e. e; plain = r.plain; asked = r.asked; ends = r.ends; begins = r.begins; sends = r.sends; posts = r.posts }

  pub sides_served : (i : Protocol) → IsServed (side_whole o p al i) (core_of T F I i)
  sides_served i = gated_served (served_whole o p al i) (core_of T F I i) (refusal o p al i) (each_served i) (each_refused i) (serves p al i)
