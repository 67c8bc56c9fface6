-- What a service takes by the shape of its slave.
use Rattle.std.proofs.Common.{◌≡◌, ℕ, ◌+◌, ◌-◌, ◌*◌, ◌/◌, ◌≤◌, ◌&&◌, ◌||◌, ◌==◌, nat_lt, true, false, not, List, length, Option, Some, None, Result, Ok, Err, ap, ◌∙◌, arith}
use Rattle.std.proofs.lemmas.List.{length-map}
use Rattle.std.proofs.lemmas.Nat.{le-div}
use Rattle.std.proofs.Math.Nat.{div-mul-le_self}
use Rattle.slave_parts.specs.of_eoe.declared.message.Eoe.TheVariants.{Fragment as Part}
use Rattle.slave_parts.specs.of_eoe.declared.message.Fragment.{Fragment}
use Rattle.slave_parts.specs.of_eoe.Cutting.{fragments_of}
use Rattle.slave_parts.specs.of_eoe.Message.{eoe_text}
use Rattle.slave_parts.specs.of_exchange_model.Areas.{Areas, AreMailboxes}
use Rattle.slave_parts.specs.of_object_dictionary.Dictionary.{Table}
use Rattle.slave_parts.specs.of_object_dictionary.Sound.{is_table}
use Rattle.slave_parts.specs.of_file_store.Files as Store
use Rattle.slave_parts.specs.of_idn_table.Idns as Idns
use Rattle.slave_parts.specs.of_protocol_models.CoeMeaning as CoeMeaning
use Rattle.slave_parts.specs.of_protocol_models.CoeMails.{fragment}
use Rattle.slave_parts.specs.of_protocol_models.CoeServer.{Emission, emergency, packet, emission_of, issued}
use Rattle.slave_parts.specs.of_coe_server.ObjectTables.{stores}
use Rattle.slave_parts.specs.of_protocol_models.FoeMeaning as FoeMeaning
use Rattle.slave_parts.specs.of_protocol_models.SoeClient as SoeClient
use Rattle.slave_parts.specs.of_protocol_models.EoeClient as EoeClient
use Rattle.slave_parts.specs.of_protocol_models.Echo.{echo_of}
use Rattle.slave_parts.specs.of_protocol_models.EoeMails.{part}
use Rattle.slave_parts.specs.of_protocol_models.Network.{Station}
use Rattle.slave_parts.specs.of_protocol_models.EoeServer.{addressed, sends}
use Rattle.slave_parts.specs.of_slave_model.Application.{ArePartsLawful, core_valid, station_valid, stored, station_tables, station_files, station_elements, network, fragment_bodies}
use Rattle.slave_parts.specs.of_slave_model.Product.{served, refusal, product}
use Rattle.slave_parts.specs.of_slave_model.Profile.{Protocol, Profile, IsProfile, areas_of, serves}
use Rattle.slave_parts.specs.of_slave_model.Server.{ServiceOf}
use Rattle.slave_parts.proofs.of_slave_model.ProductLaw.{product_law}
use Rattle.slave_parts.proofs.of_slave_model.Stations.{left_of, right_of}
use Rattle.slave_parts.specs.Parts.{Core, parts}
use Rattle.few_replies.specs.Counts.{third, mails_within, coe_octets, foe_octets, foe_busy, soe_octets}
use Rattle.few_replies.specs.RowCounts.{AreCounted}
use Rattle.few_replies.proofs.Thirds.{fits}
use Rattle.few_replies.proofs.OfEoe.{packet_within}
use Rattle.few_replies.specs.Slave.{service_most}
use Rattle.few_replies.specs.Shapes.{shape_of, shape_at, sdo_octets, emission_mails, sdo_emission, file_most, element_octets, echo_mails, net_echo, shape_most}
use Rattle.few_replies.proofs.Layers.{answers}
use Rattle.few_replies.proofs.OfSlave.{slave_by, refused_most, coe_refused}
use Rattle.few_replies.proofs.Sizes.{read_within, told_within, get_within, element_within}
use Rattle.few_replies.proofs.Stays.{shape_stays}

-- fewer octets take fewer mails
pub mails_less : (areas : Areas) → AreMailboxes areas → (a b : ℕ) → a ≤ b → mails_within areas a ≤ mails_within areas b
mails_less areas sized a b less =
    let f = fits areas sized in
    let w = third areas in
    let whole : a / w * w ≤ a = div-mul-le_self a w in
    let all : a / w ≤ b / w = le-div (a / w) b w f.some (omega arith) in
    omega (arith, all)

module _ (p : Profile) (is : IsProfile p) (al : ℕ) (s : Station Core) (valid : station_valid parts s ≡ true) where
  sized : AreMailboxes (areas_of p)
  sized = record { out_least = is.out_least; out_most = is.out_most; back_least = is.back_least; back_most = is.back_most }

  core : core_valid parts s.app ≡ true
  core = left_of (core_valid parts s.app) (nat_lt s.frame 16) valid

  table_valid : is_table s.app.objects ≡ true
  table_valid = left_of (is_table s.app.objects) (Store.is_valid s.app.files && Idns.are_idns s.app.idns) core

  files_valid : Store.is_valid s.app.files ≡ true
  files_valid = left_of (Store.is_valid s.app.files) (Idns.are_idns s.app.idns) (right_of (is_table s.app.objects) (Store.is_valid s.app.files && Idns.are_idns s.app.idns) core)

  idns_valid : Idns.are_idns s.app.idns ≡ true
  idns_valid = right_of (Store.is_valid s.app.files) (Idns.are_idns s.app.idns) (right_of (is_table s.app.objects) (Store.is_valid s.app.files && Idns.are_idns s.app.idns) core)

  coe_within : serves p al Protocol.CoE ≡ true → (q : CoeMeaning.Service) → coe_octets (station_tables parts p.back al) s q ≤ sdo_octets p (shape_of s.app) q
  coe_within served (CoeMeaning.download t bytes) = omega arith
  coe_within served (CoeMeaning.upload t) =
      let has : p.has_coe ≡ true = left_of p.has_coe (false || not (al == 3)) served in
      rw has (read_within al s.app.objects t table_valid)
  coe_within served (CoeMeaning.information a) = told_within s.app.objects a table_valid

  -- what is emitted
  issued_within : (changed : Station Core) (e : Option Emission) → length (issued (station_tables parts p.back al) changed e).1 ≤ emission_mails e
  issued_within changed None = omega arith
  issued_within changed (Some (emergency octets)) = omega arith
  issued_within changed (Some (packet octets)) =
      let fs = fragments_of octets (32 * ((p.back - 10) / 32)) changed.frame in
      let bodies = fragment_bodies p.back octets changed.frame in
      omega (arith, length-map bodies fragment, length-map fs (λ (f : Fragment). eoe_text (Part f)), length-map fs part, packet_within p.back changed.frame octets is.back_least)

  emits_within : (q : CoeMeaning.Service) → length (CoeMeaning.meaning_of (station_tables parts p.back al) p.has_eoe s q).emits ≤ emission_mails (sdo_emission p q)
  emits_within (CoeMeaning.download t bytes) = by (stores al s.app.objects t bytes)
    where
      by : (r : Result Table ℕ) → length (CoeMeaning.download_means (station_tables parts p.back al) p.has_eoe s t bytes (stored s r)).emits ≤ emission_mails (emission_of p.has_eoe t bytes)
      by (Ok objects) = issued_within (record s { app = record s.app { objects = objects } }) (emission_of p.has_eoe t bytes)
      by (Err code) = omega arith
  emits_within (CoeMeaning.upload t) = by ((station_tables parts p.back al).upload s t)
    where
      by : (r : Result (List ℕ) ℕ) → length (CoeMeaning.value_means s r).emits ≤ 0
      by (Ok bytes) = omega arith
      by (Err code) = omega arith
  emits_within (CoeMeaning.information a) = by ((station_tables parts p.back al).info s a)
    where
      by : (r : Result (List ℕ) ℕ) → length (CoeMeaning.value_means s r).emits ≤ 0
      by (Ok bytes) = omega arith
      by (Err code) = omega arith

  foe_within : (q : FoeMeaning.Service) → mails_within (areas_of p) (foe_octets (station_files parts al) s q) + 2 * foe_busy (station_files parts al) s q ≤ file_most p (shape_of s.app) q
  foe_within (FoeMeaning.read name pass) =
      let few = get_within s.app.files name ((station_files parts al).allowed s name pass false) files_valid in
      omega (arith, mails_less (areas_of p) sized (foe_octets (station_files parts al) s (FoeMeaning.read name pass)) (128 * s.app.files.blocks) few)
  foe_within (FoeMeaning.write name pass bytes) = omega arith

  soe_within : (q : SoeClient.Service) → soe_octets (station_elements parts) s q ≤ element_octets q
  soe_within (SoeClient.read t) = element_within s.app.idns t idns_valid
  soe_within (SoeClient.write t bytes) = omega arith

  -- what comes back of a packet
  sends_within : (sent : Option (List ℕ)) → length (sends p.back s.frame (s.app, sent)).1 ≤ echo_mails sent
  sends_within None = omega arith
  sends_within (Some octets) = packet_within p.back s.frame octets is.back_least

  echo_within : (q : EoeClient.Service) → length (EoeClient.meaning_of (network parts p) p.back s q).emits ≤ echo_mails (net_echo p q)
  echo_within (EoeClient.packet octets frame) = sends_within (echo_of p.mac octets)
  echo_within (EoeClient.set_ip block) = by (addressed (network parts p) p.back s.app block)
    where
      by : (r : Option Core) → length (EoeClient.set_means s r).emits ≤ 0
      by (Some app) = omega arith
      by None = omega arith
  echo_within EoeClient.get_ip = omega arith

  pub most_within : (i : Protocol) (q : ServiceOf i) → serves p al i ≡ true → service_most parts p al s i q ≤ shape_most p (shape_of s.app) i q
  most_within Protocol.CoE q served =
      omega (arith, mails_less (areas_of p) sized (coe_octets (station_tables parts p.back al) s q) (sdo_octets p (shape_of s.app) q) (coe_within served q), emits_within q)
  most_within Protocol.FoE q served = foe_within q
  most_within Protocol.SoE q served = mails_less (areas_of p) sized (soe_octets (station_elements parts) s q) (element_octets q) (soe_within q)
  most_within Protocol.EoE q served = omega (arith, echo_within q)

  pub refused_within : (law : ArePartsLawful parts) (i : Protocol) (q : ServiceOf i) → length ((refusal parts p al i).asked q) + answers (served parts p al i) (refusal parts p al i) ((served parts p al i).speech.handed q) ≤ shape_most p (shape_of s.app) i q
  refused_within law Protocol.CoE q = omega (arith, coe_refused parts law p is al q)
  refused_within law Protocol.FoE q = omega (arith, refused_most parts law p is al s Protocol.FoE q, foe_within q)
  refused_within law Protocol.SoE q = omega (arith, refused_most parts law p is al s Protocol.SoE q, mails_less (areas_of p) sized (soe_octets (station_elements parts) s q) (element_octets q) (soe_within q))
  refused_within law Protocol.EoE q = omega (arith, refused_most parts law p is al s Protocol.EoE q, echo_within q)

pub counted : ArePartsLawful parts → (p : Profile) → IsProfile p → AreCounted (product parts p) shape_at (λ k q. shape_most p k q.0 q.1)
counted law p is = record {
  within = λ v q ready valid.
      let sound = left_of (station_valid parts v.inner.app) _ ready in
      slave_by parts law p is v q (shape_most p (shape_of v.inner.app.app) q.0 q.1) ready valid (most_within p is v.state v.inner.app sound q.0 q.1) (λ e. refused_within p is v.state v.inner.app sound law q.0 q.1);
  stays = λ v q ready valid.
      ap (λ a. shape_of a.inner.app) ((product_law parts law p is).whole v q ready valid).app ∙ shape_stays p v.state q.0 v.inner.app q.1;
}
