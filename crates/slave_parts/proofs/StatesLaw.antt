-- The AL state of one slave, from whatever server.
use Rattle.std.proofs.Common.{ℕ, ◌&&◌, [], refl, sym, ap, ◌∙◌}
use Rattle.idn_table.specs.of_exchange_model.Exchange.{AnswersLast, outnumbers}
use Rattle.idn_table.proofs.of_exchange_model.Lasts.{lifted_last}
use Rattle.serving_model.specs.of_state_model.Families.{states_of}
use Rattle.serving_model.proofs.of_state_model.FamilyLaw.{plain_given_in}
use Rattle.serving_model.specs.TaggedStates.{IsStatedServed}
use Rattle.eoe_server.specs.of_protocol_models.CoeMails as CoeMails
use Rattle.eoe_server.specs.of_protocol_models.CoeOctets as CoeOctets
use Rattle.eoe_server.specs.of_protocol_models.FoeMails as FoeMails
use Rattle.eoe_server.specs.of_protocol_models.FoeOctets as FoeOctets
use Rattle.eoe_server.specs.of_protocol_models.SoeMails as SoeMails
use Rattle.eoe_server.specs.of_protocol_models.SoeOctets as SoeOctets
use Rattle.eoe_server.specs.of_protocol_models.EoeMails as EoeMails
use Rattle.eoe_server.specs.of_protocol_models.EoeOctets as EoeOctets
use Rattle.slave_model.specs.Acknowledged.{acknowledges, acknowledged}
use Rattle.slave_model.specs.Profile.{Protocol, Profile, IsProfile, serves, areas_of}
use Rattle.slave_model.specs.Application.{Parts, ArePartsLawful, station_valid, station_tables, station_files, station_elements, network}
use Rattle.slave_model.specs.Server.{Server, seat, reseated, heard_by, told_by}
use Rattle.slave_model.specs.Product.{refusal}
use Rattle.slave_model.proofs.CoeLast.{coe_last}
use Rattle.idn_table.proofs.of_protocol_models.FoeLasts.{foe_last}
use Rattle.slave_model.proofs.EoeLast.{eoe_last}
use Rattle.slave_model.proofs.Stations.{left_of, tables_law, files_law, elements_law, network_sound}
use Rattle.slave_model.proofs.Sides.{told_spells, sized}
use Rattle.slave_parts.specs.FoeServed.{foe_served}
use Rattle.slave_parts.specs.Served.{core_of, served_whole, side_whole, slave_whole, protocols_whole, product_whole, AreFilesServed}
use Rattle.slave_parts.proofs.Protocols.{coe_fine, foe_fine, eoe_fine, each_served, each_refused}
use Rattle.slave_parts.proofs.SoeSpelled.{served_spells}
use Rattle.slave_parts.proofs.Sides.{side_of}
use Rattle.slave_parts.proofs.SlaveLaw.{client}
use Rattle.slave_parts.proofs.Lasts.{soe_last, gated_last, joined_last}

module _ {T F I : Type 0} (o : Parts T F I) (law : ArePartsLawful o) (files : AreFilesServed o) (p : Profile) (is : IsProfile p) (al : ℕ) where
  file_last : AnswersLast (foe_served (station_files o al) (areas_of p)) (acknowledges Protocol.FoE)
  file_last v q fine valid answers quiet first rest e same = foe_last (station_files o al) (files_law o law al) (areas_of p) (sized o law p is al) v q (left_of (station_valid o v.app) _ fine) valid answers quiet first rest e same

  each_last : (i : Protocol) → AnswersLast (served_whole o p al i) (acknowledges i)
  each_last Protocol.CoE = lifted_last _ (heard_by CoeOctets.coe_mail_heard (CoeMails.other [])) (told_by CoeOctets.coe_mail_written) (told_spells _ CoeOctets.coe_mail_heard CoeOctets.coe_mail_written (CoeMails.other []) (coe_fine o law files p is al)) (acknowledges Protocol.CoE)
      (coe_last (station_tables o p.back al) (tables_law o law p.back al) p.has_eoe (areas_of p) (sized o law p is al))
  each_last Protocol.FoE = lifted_last _ (heard_by FoeOctets.foe_mail_heard (FoeMails.other [])) (told_by FoeOctets.foe_mail_written) (told_spells _ FoeOctets.foe_mail_heard FoeOctets.foe_mail_written (FoeMails.other []) (foe_fine o law files p is al)) (acknowledges Protocol.FoE) file_last
  each_last Protocol.SoE = lifted_last _ (heard_by SoeOctets.soe_mail_heard (SoeMails.other [])) (told_by SoeOctets.soe_mail_written)
      (told_spells _ SoeOctets.soe_mail_heard SoeOctets.soe_mail_written (SoeMails.other []) (served_spells (station_elements o) (elements_law o law) (areas_of p) (sized o law p is al))) (acknowledges Protocol.SoE)
      (soe_last (station_elements o) (elements_law o law) (areas_of p) (sized o law p is al))
  each_last Protocol.EoE = lifted_last _ (heard_by EoeOctets.eoe_mail_heard (EoeMails.other [])) (told_by EoeOctets.eoe_mail_written) (told_spells _ EoeOctets.eoe_mail_heard EoeOctets.eoe_mail_written (EoeMails.other []) (eoe_fine o law files p is al)) (acknowledges Protocol.EoE)
      (eoe_last (network o p) (network_sound o law p) (areas_of p) (sized o law p is al))

  protocols_last : AnswersLast (protocols_whole o p al) acknowledged
  protocols_last = joined_last (slave_whole o p al) (side_whole o p al) (core_of T F I) seat reseated (side_of o law files p is al) acknowledges
      (λ i. gated_last (served_whole o p al i) (core_of T F I i) (refusal o p al i) (each_served o law files p is al i) (each_refused o law files p is al i) (acknowledges i) (each_last i) (serves p al i))

module _ {T F I : Type 0} (o : Parts T F I) (law : ArePartsLawful o) (files : AreFilesServed o) (p : Profile) (is : IsProfile p) where
  product_last : AnswersLast (product_whole o p) acknowledged
  product_last v q ready valid answers quiet first rest e same =
      let one = client o law files p is in
      let whole = plain_given_in (protocols_whole o p) one v ((product_whole o p).full v q) in
      protocols_last o law files p is v.state v.inner q ready (one.valid v.state q ∙ valid) (one.handed v.state q ∙ answers)
      (ap (λ l. acknowledged q && outnumbers ((product_whole o p).full v q) l) (sym whole) ∙ quiet) first rest e
      (sym (plain_given_in (protocols_whole o p) one v first) ∙ same ∙ whole)

  pub product_stated : IsStatedServed (product_whole o p) (states_of {V = Server T F I} {A = Server T F I} acknowledged)
  product_stated = record {
    ready = λ state v. refl;
    handled = λ state v. refl;
    is = λ state v. refl;
    same = λ v. refl;
    stays = λ v b. refl;
    keeps = λ v q. refl;
    last = product_last;
  }
