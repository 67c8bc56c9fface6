-- The mails of a service at a slave.
use Rattle.std.proofs.Common.{◌≡◌, ℕ, suc, ◌+◌, ◌-◌, ◌≤◌, Bool, true, false, List, [], map, take, length, refl, ap, ◌∙◌, arith, length-take}
use Rattle.std.proofs.lemmas.List.{length-map}
use Rattle.slave_parts.specs.of_exchange_model.Refusing.{gated}
use Rattle.slave_parts.specs.of_protocol_models.CoeClient as CoeClient
use Rattle.slave_parts.specs.of_protocol_models.CoeMeaning as CoeMeaning
use Rattle.slave_parts.specs.of_protocol_models.CoeModel as CoeModel
use Rattle.slave_parts.specs.of_protocol_models.CoeMails as CoeMails
use Rattle.slave_parts.specs.of_protocol_models.CoeOctets as CoeOctets
use Rattle.slave_parts.specs.of_protocol_models.FoeClient as FoeClient
use Rattle.slave_parts.specs.of_protocol_models.FoeModel as FoeModel
use Rattle.slave_parts.specs.of_protocol_models.FoeMails as FoeMails
use Rattle.slave_parts.specs.of_protocol_models.FoeOctets as FoeOctets
use Rattle.slave_parts.specs.of_protocol_models.SoeClient as SoeClient
use Rattle.slave_parts.specs.of_protocol_models.SoeModel as SoeModel
use Rattle.slave_parts.specs.of_protocol_models.SoeMails as SoeMails
use Rattle.slave_parts.specs.of_protocol_models.SoeOctets as SoeOctets
use Rattle.slave_parts.specs.of_protocol_models.EoeClient as EoeClient
use Rattle.slave_parts.specs.of_protocol_models.EoeModel as EoeModel
use Rattle.slave_parts.specs.of_protocol_models.EoeMails as EoeMails
use Rattle.slave_parts.specs.of_protocol_models.EoeOctets as EoeOctets
use Rattle.slave_parts.specs.of_protocol_models.Network.{Station}
use Rattle.slave_parts.specs.of_state_model.Families.{InState}
use Rattle.slave_parts.proofs.of_state_model.FamilyLaw.{given_in}
use Rattle.slave_parts.specs.of_slave_model.Application.{Core, Parts, ArePartsLawful, station_tables, station_files, station_elements, network}
use Rattle.slave_parts.specs.of_slave_model.Product.{served, refusal, side, slave, protocols, product}
use Rattle.slave_parts.specs.of_slave_model.Profile.{Protocol, Profile, IsProfile, areas_of, serves}
use Rattle.slave_parts.specs.of_slave_model.Server.{Server, Seat, seat, ServiceOf, heard_by, told_by}
use Rattle.slave_parts.proofs.of_slave_model.Joint.{side_of}
use Rattle.slave_parts.proofs.of_slave_model.Own.{are_own}
use Rattle.slave_parts.proofs.of_slave_model.ProductLaw.{refusals, one_client}
use Rattle.slave_parts.proofs.of_slave_model.Sides.{sized, told_spells, coe_spelled, foe_spelled, soe_spelled, eoe_spelled}
use Rattle.slave_parts.proofs.of_slave_model.Stations.{tables_law, elements_law, network_sound}
use Rattle.few_replies.specs.Counts.{third, mails_between}
use Rattle.few_replies.proofs.Thirds.{fits}
use Rattle.few_replies.proofs.OfCoe.{coe_within}
use Rattle.few_replies.proofs.OfFoe.{foe_within}
use Rattle.few_replies.proofs.OfSoe.{fragments_within, soe_within}
use Rattle.few_replies.proofs.OfEoe.{packet_within, eoe_within}
use Rattle.few_replies.specs.Slave.{service_most}
use Rattle.few_replies.proofs.Layers.{mails_written, answers, mails_refused, mails_seated}

module _ {T F I : Type 0} (o : Parts T F I) (law : ArePartsLawful o) (p : Profile) (is : IsProfile p) (al : ℕ) where
  -- where it is served
  served_within : (i : Protocol) (v : Seat T F I i) (q : ServiceOf i) → (served o p al i).ready v ≡ true → (served o p al i).speech.valid q ≡ true →
      mails_between (served o p al i) v q ≤ service_most o p al ((served o p al i).app v) i q
  served_within Protocol.CoE v q ready valid =
      let tables = station_tables o p.back al in
      let lawful = tables_law o law p.back al in
      let same = mails_written (CoeModel.coe_exchange tables p.has_eoe (areas_of p)) (heard_by CoeOctets.coe_mail_heard (CoeMails.other [])) (told_by CoeOctets.coe_mail_written)
      (told_spells _ CoeOctets.coe_mail_heard CoeOctets.coe_mail_written (CoeMails.other []) (coe_spelled o law p is al)) v q ready valid in
      omega (arith, same, coe_within tables lawful p.has_eoe (areas_of p) (sized o law p is al) v q ready valid)
  served_within Protocol.FoE v q ready valid =
      let files = station_files o al in
      let same = mails_written (FoeModel.foe_exchange files (areas_of p)) (heard_by FoeOctets.foe_mail_heard (FoeMails.other [])) (told_by FoeOctets.foe_mail_written)
      (told_spells _ FoeOctets.foe_mail_heard FoeOctets.foe_mail_written (FoeMails.other []) (foe_spelled o law p is al)) v q ready valid in
      omega (arith, same, foe_within files (areas_of p) (sized o law p is al) v q)
  served_within Protocol.SoE v q ready valid =
      let elements = station_elements o in
      let same = mails_written (SoeModel.soe_exchange elements (areas_of p)) (heard_by SoeOctets.soe_mail_heard (SoeMails.other [])) (told_by SoeOctets.soe_mail_written)
      (told_spells _ SoeOctets.soe_mail_heard SoeOctets.soe_mail_written (SoeMails.other []) (soe_spelled o law p is al)) v q ready valid in
      omega (arith, same, soe_within elements (elements_law o law) (areas_of p) (sized o law p is al) v q ready valid)
  served_within Protocol.EoE v q ready valid =
      let net = network o p in
      let same = mails_written (EoeModel.eoe_exchange net (areas_of p)) (heard_by EoeOctets.eoe_mail_heard (EoeMails.other [])) (told_by EoeOctets.eoe_mail_written)
      (told_spells _ EoeOctets.eoe_mail_heard EoeOctets.eoe_mail_written (EoeMails.other []) (eoe_spelled o law p is al)) v q ready valid in
      omega (arith, same, eoe_within net (network_sound o law p) (areas_of p) (sized o law p is al) v q ready valid)

  -- where it isn't
  first_one : {X : Type 0} (xs : List X) → length (take 1 xs) ≤ 1
  first_one xs = omega (arith, length-take 1 xs)

  soe_asked : (q : SoeClient.Service) (app : Station (Core T F I)) → length ((refusal o p al Protocol.SoE).asked q) + 1 ≤ service_most o p al app Protocol.SoE q
  soe_asked (SoeClient.read t) app = omega arith
  soe_asked (SoeClient.write t bytes) app =
      let f = fits (areas_of p) (sized o law p is al) in
      let ms = SoeClient.mails_of p.out (SoeClient.write t bytes) in
      omega (arith, length-map ms (told_by SoeOctets.soe_mail_written), fragments_within (third (areas_of p)) (suc (length bytes)) 3 t (p.out - 10) bytes f.some (omega (arith, f.out)))

  eoe_asked : (q : EoeClient.Service) (app : Station (Core T F I)) → length ((refusal o p al Protocol.EoE).asked q) + answers (served o p al Protocol.EoE) (refusal o p al Protocol.EoE) (EoeClient.is_handed q) ≤ service_most o p al app Protocol.EoE q
  eoe_asked (EoeClient.packet octets frame) app =
      let ms = EoeClient.mails_of p.out (EoeClient.packet octets frame) in
      omega (arith, length-map ms (told_by EoeOctets.eoe_mail_written), packet_within p.out frame octets is.out_least)
  eoe_asked (EoeClient.set_ip block) app = omega arith
  eoe_asked EoeClient.get_ip app = omega arith

  -- where it is, or isn't: whatever is more than both
  pub gated_within : (i : Protocol) (b : Bool) (v : Seat T F I i) (q : ServiceOf i) (most : ℕ) → (gated b (served o p al i) (refusal o p al i)).ready v ≡ true → (gated b (served o p al i) (refusal o p al i)).speech.valid q ≡ true →
      (b ≡ true → service_most o p al ((served o p al i).app v) i q ≤ most) → (b ≡ false → length ((refusal o p al i).asked q) + answers (served o p al i) (refusal o p al i) ((served o p al i).speech.handed q) ≤ most) →
      mails_between (gated b (served o p al i) (refusal o p al i)) v q ≤ most
  gated_within i true v q most ready valid here gone = omega (arith, served_within i v q ready valid, here refl)
  gated_within i false v q most ready valid here gone =
      let few = mails_refused (served o p al i) (refusal o p al i) ((served o p al i).speech.handed q) v q ((refusals o law p is al i).asked q valid) in
      omega (arith, few, gone refl)

  seat_app : (i : Protocol) (j : Server T F I) → (served o p al i).app (seat i j) ≡ j.app
  seat_app Protocol.CoE j = refl
  seat_app Protocol.FoE j = refl
  seat_app Protocol.SoE j = refl
  seat_app Protocol.EoE j = refl

  pub joined_within : (j : Server T F I) (q : (i : Protocol) × ServiceOf i) (most : ℕ) → (protocols o p al).ready j ≡ true → (protocols o p al).speech.valid q ≡ true →
      (serves p al q.0 ≡ true → service_most o p al j.app q.0 q.1 ≤ most) →
      (serves p al q.0 ≡ false → length ((refusal o p al q.0).asked q.1) + answers (served o p al q.0) (refusal o p al q.0) ((served o p al q.0).speech.handed q.1) ≤ most) →
      mails_between (protocols o p al) j q ≤ most
  joined_within j q most ready valid here gone =
      let one = side_of o p al q.0 (are_own o law p is al q.0) in
      let same : service_most o p al ((served o p al q.0).app (seat q.0 j)) q.0 q.1 ≡ service_most o p al j.app q.0 q.1 = ap (λ a. service_most o p al a q.0 q.1) (seat_app q.0 j) in
      let within = gated_within q.0 (serves p al q.0) (seat q.0 j) q.1 most (one.ready j ready) valid (λ e. omega (arith, same, here e)) gone in
      omega (arith, within, mails_seated (slave o p al) (side o p al q.0) (seat q.0) one j q.1 ready valid)

  pub refused_most : (app : Station (Core T F I)) (i : Protocol) (q : ServiceOf i) → length ((refusal o p al i).asked q) + answers (served o p al i) (refusal o p al i) ((served o p al i).speech.handed q) ≤ service_most o p al app i q
  refused_most app Protocol.CoE q = omega (arith, first_one (map (told_by CoeOctets.coe_mail_written) (CoeClient.mails_of p.out q 0)))
  refused_most app Protocol.FoE q = omega (arith, first_one (map (told_by FoeOctets.foe_mail_written) (FoeClient.mails_of p.out q 0)))
  refused_most app Protocol.SoE q = soe_asked q app
  refused_most app Protocol.EoE q = eoe_asked q app

  -- of CoE it is one mail, and its answer
  pub coe_refused : (q : CoeMeaning.Service) → length ((refusal o p al Protocol.CoE).asked q) + answers (served o p al Protocol.CoE) (refusal o p al Protocol.CoE) ((served o p al Protocol.CoE).speech.handed q) ≤ 2
  coe_refused q = omega (arith, first_one (map (told_by CoeOctets.coe_mail_written) (CoeClient.mails_of p.out q 0)))

-- the same of the one exchange of a session
pub slave_by : {T F I : Type 0} (o : Parts T F I) (law : ArePartsLawful o) (p : Profile) (is : IsProfile p) (v : InState (Server T F I)) (q : (i : Protocol) × ServiceOf i) (most : ℕ) →
    (product o p).ready v ≡ true → (product o p).speech.valid q ≡ true → (serves p v.state q.0 ≡ true → service_most o p v.state v.inner.app q.0 q.1 ≤ most) →
    (serves p v.state q.0 ≡ false → length ((refusal o p v.state q.0).asked q.1) + answers (served o p v.state q.0) (refusal o p v.state q.0) ((served o p v.state q.0).speech.handed q.1) ≤ most) →
    mails_between (product o p) v q ≤ most
slave_by o law p is v q most ready valid here gone =
    let ms = (protocols o p v.state).full v.inner q in
    let same = ap length (given_in (protocols o p) v ms) in
    let there : (protocols o p v.state).speech.valid q ≡ true = (one_client o law p is).valid v.state q ∙ valid in
    omega (arith, same, joined_within o law p is v.state v.inner q most ready there here gone)

pub slave_within : {T F I : Type 0} (o : Parts T F I) (law : ArePartsLawful o) (p : Profile) (is : IsProfile p) (v : InState (Server T F I)) (q : (i : Protocol) × ServiceOf i) →
    (product o p).ready v ≡ true → (product o p).speech.valid q ≡ true → mails_between (product o p) v q ≤ service_most o p v.state v.inner.app q.0 q.1
slave_within o law p is v q ready valid =
    slave_by o law p is v q (service_most o p v.state v.inner.app q.0 q.1) ready valid (λ e. omega arith) (λ e. refused_most o law p is v.state v.inner.app q.0 q.1)
