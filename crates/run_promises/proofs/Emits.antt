-- What a service makes a slave send.
use Rattle.std.proofs.Common.{◌≡◌, ℕ, ◌-◌, ◌*◌, ◌/◌, ◌<◌, ◌≤◌, ◌&&◌, ◌||◌, ◌==◌, nat_le, Bool, true, false, List, [], ◌∷◌, ◌++◌, map, take, drop, length, Option, Some, None, Result, Ok, Err, refl, ap, sym, subst, arith, leb-true, length-append, length-drop, if◌then◌else◌}
use Rattle.std.specs.Prelude.{sum_by, slice_index}
use Rattle.std.specs.Str.{bytes_eq}
use Rattle.std.proofs.lemmas.List.{length-take-le}
use Rattle.std.proofs.lemmas.List.Sums.{sum_by-cons}
use Rattle.packets_heard.specs.of_object_dictionary.Dictionary.{Table}
use Rattle.packets_heard.specs.of_eoe.Address.{is_block}
use Rattle.packets_heard.specs.of_eoe.Cutting.{fragments_of}
use Rattle.packets_heard.specs.of_eoe.Message.{eoe_text}
use Rattle.packets_heard.specs.of_eoe.declared.message.Eoe.TheVariants.{Fragment as Part}
use Rattle.packets_heard.specs.of_eoe.declared.message.Fragment.{Fragment}
use Rattle.packets_heard.specs.of_protocol_models.CoeMails as CoeMails
use Rattle.packets_heard.specs.of_protocol_models.CoeMeaning as CoeMeaning
use Rattle.packets_heard.specs.of_protocol_models.CoeOctets as CoeOctets
use Rattle.packets_heard.specs.of_protocol_models.CoeServer.{Emission, emergency, packet, emission_of, issued}
use Rattle.packets_heard.specs.of_coe_server.ObjectTables.{stores}
use Rattle.packets_heard.specs.of_protocol_models.EoeClient as EoeClient
use Rattle.packets_heard.specs.of_protocol_models.Echo.{everyone, is_echo, echo_of}
use Rattle.packets_heard.specs.of_protocol_models.EoeMails.{part, packet_mails}
use Rattle.packets_heard.specs.of_protocol_models.Network.{Station}
use Rattle.packets_heard.specs.of_protocol_models.EoeOctets as EoeOctets
use Rattle.packets_heard.specs.of_protocol_models.EoeServer.{sends}
use Rattle.packets_heard.specs.of_exchange_model.Refusing.{gated}
use Rattle.packets_heard.specs.of_link_mails.Body.{Body}
use Rattle.packets_heard.specs.of_master_hand.Brings.{as_list}
use Rattle.served_rings.specs.of_few_replies.Shapes.{sdo_emission, net_echo}
use Rattle.served_rings.specs.of_slave_model.Application.{stored, station_tables, network}
use Rattle.served_rings.specs.of_slave_model.Product.{served, refusal, side}
use Rattle.served_rings.specs.of_slave_model.Profile.{Protocol, Profile, IsProfile, serves}
use Rattle.served_rings.specs.of_slave_model.Server.{ServiceOf, told_by}
use Rattle.served_rings.specs.of_slave_parts.Parts.{Core, parts}
use Rattle.run_promises.specs.Sends.{of_emission, may_send, MaySend, Sends}
use Rattle.run_promises.proofs.Cuts.{sends_none, sends_packet}
use Rattle.run_promises.proofs.Stays.{emitted_sized}

-- a fragment is the same mail by CoE's server as by EoE's
same_mails : (fs : List Fragment) → map (told_by CoeOctets.coe_mail_written) (map CoeMails.fragment (map (λ (f : Fragment). eoe_text (Part f)) fs)) ≡ map (told_by EoeOctets.eoe_mail_written) (map part fs)
same_mails [] = refl
same_mails (f ∷ fs) = ap (λ l. told_by EoeOctets.eoe_mail_written (part f) ∷ l) (same_mails fs)

module _ (weigh : List ℕ → ℕ) (p : Profile) (is : IsProfile p) where
  -- a packet of the length that it has to have, with the next frame number
  one : (frame : ℕ) (octets : List ℕ) → frame < 16 → (14 ≤ length octets) × (length octets ≤ 1514) → Sends weigh p.back (map (told_by EoeOctets.eoe_mail_written) (packet_mails p.back octets frame)) (sum_by weigh (octets ∷ []))
  one frame octets low fits =
      let s = sends_packet weigh p.back frame octets is.back_least is.back_most fits.0 fits.1 low in
      record { packets = s.packets; whole = s.whole; few = omega (arith, s.few, sum_by-cons weigh octets []) }

  -- ---- CoE
  pub issued_emits : (al : ℕ) (s : Station Core) (e : Option Emission) → s.frame < 16 → ((octets : List ℕ) → e ≡ Some (packet octets) → (14 ≤ length octets) × (length octets ≤ 1514)) →
      Sends weigh p.back (map (told_by CoeOctets.coe_mail_written) (issued (station_tables parts p.back al) s e).1) (sum_by weigh (of_emission e))
  issued_emits al s None low fits = sends_none weigh p.back [] 0 refl
  issued_emits al s (Some (emergency octets)) low fits = sends_none weigh p.back _ 0 refl
  issued_emits al s (Some (packet octets)) low fits =
      subst (λ (ms : List Body). Sends weigh p.back ms (sum_by weigh (octets ∷ []))) (sym (same_mails (fragments_of octets (32 * ((p.back - 10) / 32)) s.frame))) (one s.frame octets low (fits octets refl))

  coe_emits : (al : ℕ) (s : Station Core) (q : CoeMeaning.Service) → MaySend s →
      Sends weigh p.back (map (told_by CoeOctets.coe_mail_written) (CoeMeaning.meaning_of (station_tables parts p.back al) p.has_eoe s q).emits) (sum_by weigh (of_emission (sdo_emission p q)))
  coe_emits al s (CoeMeaning.download t bytes) may = by (stores al s.app.objects t bytes) refl
    where
      by : (r : Result Table ℕ) → stores al s.app.objects t bytes ≡ r →
          Sends weigh p.back (map (told_by CoeOctets.coe_mail_written) (CoeMeaning.download_means (station_tables parts p.back al) p.has_eoe s t bytes (stored s r)).emits) (sum_by weigh (of_emission (emission_of p.has_eoe t bytes)))
      by (Ok objects) done = issued_emits al (record s { app = record s.app { objects = objects } }) (emission_of p.has_eoe t bytes) may.frame (λ octets e. emitted_sized al s.app.objects objects t bytes octets p.has_eoe may.table done e)
      by (Err code) done = sends_none weigh p.back [] _ refl
  coe_emits al s (CoeMeaning.upload t) may = by ((station_tables parts p.back al).upload s t)
    where
      by : (r : Result (List ℕ) ℕ) → Sends weigh p.back (map (told_by CoeOctets.coe_mail_written) (CoeMeaning.value_means s r).emits) 0
      by (Ok bytes) = sends_none weigh p.back [] 0 refl
      by (Err code) = sends_none weigh p.back [] 0 refl
  coe_emits al s (CoeMeaning.information a) may = by ((station_tables parts p.back al).info s a)
    where
      by : (r : Result (List ℕ) ℕ) → Sends weigh p.back (map (told_by CoeOctets.coe_mail_written) (CoeMeaning.value_means s r).emits) 0
      by (Ok bytes) = sends_none weigh p.back [] 0 refl
      by (Err code) = sends_none weigh p.back [] 0 refl

  -- ---- EoE
  pub echo_fits : (octets echo : List ℕ) → echo_of p.mac octets ≡ Some echo → (14 ≤ length echo) × (length echo ≤ 1514)
  echo_fits octets echo e = by (is_echo p.mac octets) refl e
    where
      first_of : (a b : Bool) → (a && b) ≡ true → (a ≡ true) × (b ≡ true)
      first_of true true f = (refl, refl)
      first_of true false f = absurd (cc)
      first_of false b f = absurd (cc)

      by : (b : Bool) → is_echo p.mac octets ≡ b → (if b then Some (take 6 (drop 6 octets) ++ (p.mac ++ 0x88 ∷ 0xB6 ∷ drop 14 octets)) else None) ≡ Some echo → (14 ≤ length echo) × (length echo ≤ 1514)
      by false f e = absurd (cc)
      by true f e =
          let rest = slice_index octets 12 == 0x88 && (slice_index octets 13 == 0xB5 && (bytes_eq (take 6 octets) p.mac || bytes_eq (take 6 octets) everyone)) in
          let parted = first_of (nat_le (length octets) 1514) (nat_le 14 (length octets) && rest) f in
          let short = leb-true (length octets) 1514 parted.0 in
          let long = leb-true 14 (length octets) (first_of (nat_le 14 (length octets)) rest parted.1).0 in
          let same : take 6 (drop 6 octets) ++ (p.mac ++ 0x88 ∷ 0xB6 ∷ drop 14 octets) ≡ echo = cc in
          let length_is = lengths octets long in
          (omega (arith, ap length same, length_is, long), omega (arith, ap length same, length_is, short))
        where
          lengths : (octets : List ℕ) → 14 ≤ length octets → length (take 6 (drop 6 octets) ++ (p.mac ++ 0x88 ∷ 0xB6 ∷ drop 14 octets)) ≡ length octets
          lengths octets long =
              let source = length-take-le 6 (drop 6 octets) (omega (arith, long, length-drop 6 octets)) in
              omega (arith, long, is.mac, source, length-append (take 6 (drop 6 octets)) (p.mac ++ 0x88 ∷ 0xB6 ∷ drop 14 octets), length-append p.mac (0x88 ∷ 0xB6 ∷ drop 14 octets), length-drop 14 octets)

  pub sent_emits : (s : Station Core) (sent : Option (List ℕ)) → s.frame < 16 → ((echo : List ℕ) → sent ≡ Some echo → (14 ≤ length echo) × (length echo ≤ 1514)) →
      Sends weigh p.back (map (told_by EoeOctets.eoe_mail_written) (sends p.back s.frame (s.app, sent)).1) (sum_by weigh (as_list sent))
  sent_emits s None low fits = sends_none weigh p.back [] 0 refl
  sent_emits s (Some octets) low fits = one s.frame octets low (fits octets refl)

  eoe_emits : (s : Station Core) (q : EoeClient.Service) → MaySend s → Sends weigh p.back (map (told_by EoeOctets.eoe_mail_written) (EoeClient.meaning_of (network parts p) p.back s q).emits) (sum_by weigh (as_list (net_echo p q)))
  eoe_emits s (EoeClient.packet octets frame) may = sent_emits s (echo_of p.mac octets) may.frame (λ echo e. echo_fits octets echo e)
  eoe_emits s (EoeClient.set_ip block) may = by (is_block block && nat_le (length block) (p.back - 10)) p.fixed_ip
    where
      by : (a b : Bool) → Sends weigh p.back (map (told_by EoeOctets.eoe_mail_written) (EoeClient.set_means s (if a then (if b then None else Some (record s.app { block = block })) else None)).emits) 0
      by true true = sends_none weigh p.back [] 0 refl
      by true false = sends_none weigh p.back [] 0 refl
      by false b = sends_none weigh p.back [] 0 refl
  eoe_emits s EoeClient.get_ip may = sends_none weigh p.back [] 0 refl

  served_emits : (al : ℕ) (s : Station Core) (i : Protocol) (q : ServiceOf i) → MaySend s → Sends weigh p.back ((served parts p al i).emits s q) (sum_by weigh (may_send p i q))
  served_emits al s Protocol.CoE q may = coe_emits al s q may
  served_emits al s Protocol.FoE q may = sends_none weigh p.back [] 0 refl
  served_emits al s Protocol.SoE q may = sends_none weigh p.back [] 0 refl
  served_emits al s Protocol.EoE q may = eoe_emits s q may

  pub side_emits : (al : ℕ) (s : Station Core) (i : Protocol) (q : ServiceOf i) → MaySend s → Sends weigh p.back ((side parts p al i).emits s q) (sum_by weigh (may_send p i q))
  side_emits al s i q may = by (serves p al i)
    where
      by : (b : Bool) → Sends weigh p.back ((gated b (served parts p al i) (refusal parts p al i)).emits s q) (sum_by weigh (may_send p i q))
      by true = served_emits al s i q may
      by false = sends_none weigh p.back [] _ refl
