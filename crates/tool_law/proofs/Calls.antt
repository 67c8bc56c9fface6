-- A slave's services as calls over a gateway.
use Rattle.std.proofs.Common.{◌≡◌, ◌≢◌, ℕ, ◌≤◌, ◌<◌, List, [], ◌∷◌, length, map, true, refl, sym, ap, ◌∙◌, subst, arith}
use Rattle.gateway_tool.specs.of_ec_outside.declared.port.Peer.{Peer}
use Rattle.slave_model.specs.of_mailbox_mail.Mail.{error_of}
use Rattle.slave_model.specs.of_mailbox_mail.declared.mail.Mail.{Mail}
use Rattle.slave_model.specs.of_exchange_model.Lifted.{EachOf}
use Rattle.gateway_tool.specs.of_object_dictionary.declared.service.SdoService.{SdoService}
use Rattle.gateway_tool.specs.of_segment_plan.declared.service.Service.{Service as Asked}
use Rattle.slave_model.specs.of_protocol_models.CoeMails as CoeMails
use Rattle.slave_model.specs.of_protocol_models.CoeOctets.{coe_mail_heard, coe_mail_written}
use Rattle.slave_model.specs.of_protocol_models.Tables.{Ask}
use Rattle.slave_model.specs.of_protocol_models.CoeMeaning as CoeMeaning
use Rattle.slave_model.specs.of_protocol_models.CoeClient as CoeClient
use Rattle.slave_model.specs.of_protocol_models.CoeModel as CoeModel
use Rattle.gateway_tool.specs.of_coe_client.Talk.{service_view}
use Rattle.slave_model.specs.of_protocol_models.FoeMails as FoeMails
use Rattle.slave_model.specs.of_protocol_models.FoeOctets.{foe_mail_heard, foe_mail_written}
use Rattle.slave_model.specs.of_protocol_models.FoeMeaning as FoeMeaning
use Rattle.slave_model.specs.of_protocol_models.FoeClient as FoeClient
use Rattle.slave_model.specs.of_protocol_models.FoeModel as FoeModel
use Rattle.slave_model.specs.Profile.{Protocol, Profile, IsProfile, areas_of, serves}
use Rattle.slave_model.specs.Application.{Parts, ArePartsLawful, station_tables, station_files}
use Rattle.slave_model.specs.Server.{Server, seat, heard_by, told_by}
use Rattle.slave_model.specs.Product.{served, refusal, side, slave, protocols}
use Rattle.slave_model.proofs.Stations.{tables_law, files_law, left_of}
use Rattle.slave_model.proofs.Sides.{told_spells, sized, coe_spelled, foe_spelled}
use Rattle.slave_model.proofs.Joint.{gated_speech, side_of}
use Rattle.slave_model.proofs.Own.{are_own}
use Rattle.gateway_tool.specs.Rule.{planned, ends}
use Rattle.tool_law.specs.Answered.{bare, IsAnswered}
use Rattle.tool_law.specs.Services.{IsEntry, IsFile}
use Rattle.tool_law.specs.Slave.{mail_of, body_of, slave_exchange}
use Rattle.tool_law.specs.Speaking.{IsSpeaking}
use Rattle.tool_law.proofs.Speaking.{lifted_speaking, gated_speaking, joined_speaking}
use Rattle.tool_law.proofs.Answering.{map_both, answered_so}
use Rattle.tool_law.proofs.Slaves.{slave_spells, slave_law, slave_bare, first_said, first_one}
use Rattle.tool_law.proofs.Sdo.{sdo_speaking, sdo_short}
use Rattle.tool_law.proofs.Files.{file_speaking, file_short}

each_mapped : {M N : Type 0} (f : M → N) (P : N → Type 0) (xs : List M) → EachOf (λ m. P (f m)) xs → EachOf P (map f xs)
each_mapped f P [] all = tt
each_mapped f P (x ∷ xs) all = (all.0, each_mapped f P xs all.1)

-- mails are heard without addresses and counters
heard_bare : {X : Type 0} (read : Mail → X) → ((m : Mail) → read (bare m) ≡ read m) → (hs : List Mail) → map read (map bare hs) ≡ map read hs
heard_bare read e [] = refl
heard_bare read e (h ∷ hs) = λ i. e h i ∷ heard_bare read e hs i

module _ {T F I : Type 0} (o : Parts T F I) (law : ArePartsLawful o) (p : Profile) (is : IsProfile p) (al : ℕ) where
  -- the client of a protocol speaks alike, where that is served and where it isn't
  speech_so : (i : Protocol) → (side o p al i).speech ≡ (served o p al i).speech
  speech_so i = gated_speech (served o p al i) (refusal o p al i) (serves p al i)

  -- ---- a download or an upload

  entry_speaking : (j : Server T F I) (q : CoeMeaning.Service) → (protocols o p al).ready j ≡ true → CoeModel.is_service q ≡ true → ((a : Ask) → q ≢ CoeMeaning.information a) → IsSpeaking (slave_exchange o p al) (error_of 0) j (Protocol.CoE, q)
  entry_speaking j q ready valid asks =
      lifted_speaking (protocols o p al) body_of mail_of (error_of 0) j (Protocol.CoE, q) (slave_spells o p al) ready (ap (λ z. z.valid q) (speech_so Protocol.CoE) ∙ valid)
      (joined_speaking (slave o p al) (side o p al) seat (λ i. side_of o p al i (are_own o law p is al i)) j Protocol.CoE q (body_of (error_of 0)) ready (ap (λ z. z.valid q) (speech_so Protocol.CoE) ∙ valid)
      (gated_speaking (served o p al Protocol.CoE) (refusal o p al Protocol.CoE) (body_of (error_of 0)) (seat Protocol.CoE j) q
      (lifted_speaking (CoeModel.coe_exchange (station_tables o p.back al) p.has_eoe (areas_of p)) (heard_by coe_mail_heard (CoeMails.other [])) (told_by coe_mail_written) (body_of (error_of 0)) (seat Protocol.CoE j) q
      (told_spells _ coe_mail_heard coe_mail_written (CoeMails.other []) (coe_spelled o law p is al)) (left_of _ _ ready) valid
      (sdo_speaking (station_tables o p.back al) (tables_law o law p.back al) p.has_eoe (areas_of p) (sized o law p is al) (seat Protocol.CoE j) q (left_of _ _ ready) valid asks))
      (first_one (map (told_by coe_mail_written) (CoeClient.mails_of p.out q 0)))
      (first_said (told_by coe_mail_written) CoeClient.decide (λ m. refl) (CoeClient.mails_of p.out q 0))
      (λ m. omega arith)
      (serves p al Protocol.CoE)))

  module _ (s : SdoService) (station : ℕ) (to : Peer) where
    entry_plans : (hs : List Mail) → (slave_exchange o p al).speech.planned (Protocol.CoE, service_view s) hs ≡ planned (areas_of p) (Asked.Sdo s) hs
    entry_plans hs =
        ap (λ z. map mail_of (z.planned (service_view s) (map body_of hs))) (speech_so Protocol.CoE)
        ∙ map_both (told_by coe_mail_written) mail_of _
        ∙ ap (λ l. map coe_mail_written (CoeModel.planned p.out (service_view s) l)) (map_both body_of (heard_by coe_mail_heard (CoeMails.other [])) hs)

    entry_ends : (hs : List Mail) → (slave_exchange o p al).speech.ends (Protocol.CoE, service_view s) hs ≡ ends (areas_of p) (Asked.Sdo s) hs
    entry_ends hs = ap (λ z. z.ends (service_view s) (map body_of hs)) (speech_so Protocol.CoE) ∙ ap (CoeClient.ends p.out (service_view s)) (map_both body_of (heard_by coe_mail_heard (CoeMails.other [])) hs)

    pub entry_answered : (j : Server T F I) → (protocols o p al).ready j ≡ true → IsEntry s → station < 65536 →
        IsAnswered (slave_exchange o p al) j (Protocol.CoE, service_view s) (record { areas = areas_of p; service = Asked.Sdo s; station = station; to = to })
    entry_answered j ready entry within =
        answered_so (slave_exchange o p al) j (Protocol.CoE, service_view s) (record { areas = areas_of p; service = Asked.Sdo s; station = station; to = to })
        (slave_law o p al law is) ready (ap (λ z. z.valid (service_view s)) (speech_so Protocol.CoE) ∙ entry.valid) (ap (λ z. z.handed (service_view s)) (speech_so Protocol.CoE))
        entry_plans entry_ends (slave_bare o p al)
        (λ hs. ap (λ l. map coe_mail_written (CoeModel.planned p.out (service_view s) l)) (heard_bare coe_mail_heard (λ m. refl) hs))
        (λ hs. ap (CoeClient.ends p.out (service_view s)) (heard_bare coe_mail_heard (λ m. refl) hs))
        (entry_speaking j (service_view s) ready entry.valid entry.sdo)
        (λ hs. each_mapped coe_mail_written (λ (m : Mail). length m.body.items ≤ 1480) _ (sdo_short (station_tables o p.back al) (tables_law o law p.back al) p.has_eoe (areas_of p) (sized o law p is al) (service_view s) entry.sdo (map coe_mail_heard hs)))
        within

  -- ---- a file

  file_calls : (j : Server T F I) (q : FoeMeaning.Service) → (protocols o p al).ready j ≡ true → FoeModel.is_service q ≡ true → length (FoeModel.full (station_files o al) (areas_of p) (seat Protocol.FoE j) q) < 65536 →
      IsSpeaking (slave_exchange o p al) (error_of 0) j (Protocol.FoE, q)
  file_calls j q ready valid few =
      lifted_speaking (protocols o p al) body_of mail_of (error_of 0) j (Protocol.FoE, q) (slave_spells o p al) ready (ap (λ z. z.valid q) (speech_so Protocol.FoE) ∙ valid)
      (joined_speaking (slave o p al) (side o p al) seat (λ i. side_of o p al i (are_own o law p is al i)) j Protocol.FoE q (body_of (error_of 0)) ready (ap (λ z. z.valid q) (speech_so Protocol.FoE) ∙ valid)
      (gated_speaking (served o p al Protocol.FoE) (refusal o p al Protocol.FoE) (body_of (error_of 0)) (seat Protocol.FoE j) q
      (lifted_speaking (FoeModel.foe_exchange (station_files o al) (areas_of p)) (heard_by foe_mail_heard (FoeMails.other [])) (told_by foe_mail_written) (body_of (error_of 0)) (seat Protocol.FoE j) q
      (told_spells _ foe_mail_heard foe_mail_written (FoeMails.other []) (foe_spelled o law p is al)) (left_of _ _ ready) valid
      (file_speaking (station_files o al) (files_law o law al) (areas_of p) (sized o law p is al) (seat Protocol.FoE j) q (left_of _ _ ready) few))
      (first_one (map (told_by foe_mail_written) (FoeClient.mails_of p.out q 0)))
      (first_said (told_by foe_mail_written) (FoeClient.decide p.out) (λ m. refl) (FoeClient.mails_of p.out q 0))
      (λ m. omega arith)
      (serves p al Protocol.FoE)))

  file_plans : (q : FoeMeaning.Service) (hs : List Mail) → (slave_exchange o p al).speech.planned (Protocol.FoE, q) hs ≡ map foe_mail_written (FoeModel.planned p.out q (map foe_mail_heard hs))
  file_plans q hs =
      ap (λ z. map mail_of (z.planned q (map body_of hs))) (speech_so Protocol.FoE)
      ∙ map_both (told_by foe_mail_written) mail_of _
      ∙ ap (λ l. map foe_mail_written (FoeModel.planned p.out q l)) (map_both body_of (heard_by foe_mail_heard (FoeMails.other [])) hs)

  file_ends : (q : FoeMeaning.Service) (hs : List Mail) → (slave_exchange o p al).speech.ends (Protocol.FoE, q) hs ≡ FoeClient.ends (areas_of p) q (map foe_mail_heard hs)
  file_ends q hs = ap (λ z. z.ends q (map body_of hs)) (speech_so Protocol.FoE) ∙ ap (FoeClient.ends (areas_of p) q) (map_both body_of (heard_by foe_mail_heard (FoeMails.other [])) hs)

  file_by : (s : Asked) (q : FoeMeaning.Service) (station : ℕ) (to : Peer) (j : Server T F I) → ((hs : List Mail) → planned (areas_of p) s hs ≡ map foe_mail_written (FoeModel.planned p.out q (map foe_mail_heard hs))) →
      ((hs : List Mail) → ends (areas_of p) s hs ≡ FoeClient.ends (areas_of p) q (map foe_mail_heard hs)) → (protocols o p al).ready j ≡ true → FoeModel.is_service q ≡ true →
      length (FoeModel.full (station_files o al) (areas_of p) (seat Protocol.FoE j) q) < 65536 → station < 65536 →
      IsAnswered (slave_exchange o p al) j (Protocol.FoE, q) (record { areas = areas_of p; service = s; station = station; to = to })
  file_by s q station to j plans replies ready valid few within =
      answered_so (slave_exchange o p al) j (Protocol.FoE, q) (record { areas = areas_of p; service = s; station = station; to = to })
      (slave_law o p al law is) ready (ap (λ z. z.valid q) (speech_so Protocol.FoE) ∙ valid) (ap (λ z. z.handed q) (speech_so Protocol.FoE))
      (λ hs. file_plans q hs ∙ sym (plans hs)) (λ hs. file_ends q hs ∙ sym (replies hs)) (slave_bare o p al)
      (λ hs. plans (map bare hs) ∙ ap (λ l. map foe_mail_written (FoeModel.planned p.out q l)) (heard_bare foe_mail_heard (λ m. refl) hs) ∙ sym (plans hs))
      (λ hs. replies (map bare hs) ∙ ap (FoeClient.ends (areas_of p) q) (heard_bare foe_mail_heard (λ m. refl) hs) ∙ sym (replies hs))
      (file_calls j q ready valid few)
      (λ hs. subst (EachOf (λ (m : Mail). length m.body.items ≤ 1480)) (sym (plans hs)) (each_mapped foe_mail_written (λ (m : Mail). length m.body.items ≤ 1480) _ (file_short (station_files o al) (files_law o law al) (areas_of p) (sized o law p is al) q valid (map foe_mail_heard hs))))
      within

  pub file_answered : (s : Asked) (q : FoeMeaning.Service) (station : ℕ) (to : Peer) (j : Server T F I) → IsFile s q → (protocols o p al).ready j ≡ true → FoeModel.is_service q ≡ true →
      length (FoeModel.full (station_files o al) (areas_of p) (seat Protocol.FoE j) q) < 65536 → station < 65536 →
      IsAnswered (slave_exchange o p al) j (Protocol.FoE, q) (record { areas = areas_of p; service = s; station = station; to = to })
  file_answered _ _ station to j (IsFile.reads name pass) ready valid few within = file_by (Asked.ReadFile name pass) (FoeMeaning.read name.items pass) station to j (λ hs. refl) (λ hs. refl) ready valid few within
  file_answered _ _ station to j (IsFile.writes name pass bytes) ready valid few within = file_by (Asked.WriteFile name pass bytes) (FoeMeaning.write name.items pass bytes) station to j (λ hs. refl) (λ hs. refl) ready valid few within
