-- What a slave sends by a mail that is passed on: no packet, by a fair mail of CoE, FoE or SoE.
use Rattle.std.proofs.Common.{◌≡◌, ℕ, ◌==◌, ◌&&◌, ◌||◌, not, Bool, true, false, List, [], ◌∷◌, ◌++◌, map, Option, Some, None, Ok, Err, refl, ap, ◌∙◌, if◌then◌else◌}
use Rattle.packets_heard.specs.of_protocol_models.CoeMails as Coe
use Rattle.packets_heard.specs.of_protocol_models.CoeMails.{CoeMail, mail, unread, failed, other}
use Rattle.packets_heard.specs.of_protocol_models.CoeOctets as CoeOctets
use Rattle.packets_heard.specs.of_protocol_models.CoeServer.{Transfer, idle, downloading, uploading, Emission, emission_of, issued, coe_outcome, emergency, packet}
use Rattle.packets_heard.specs.of_protocol_models.Tables.{Target}
use Rattle.packets_heard.specs.of_protocol_models.EoeMails as Eoe
use Rattle.packets_heard.specs.of_protocol_models.Network.{Station}
use Rattle.packets_heard.specs.of_protocol_models.EoeOctets as EoeOctets
use Rattle.packets_heard.specs.of_exchange_model.Refusing.{gated}
use Rattle.served_rings.specs.of_few_replies.Most.{is_packet_entry, brings_packet, begins_message, begins_mail, begins_packet}
use Rattle.served_rings.specs.of_few_replies.Packets.{is_calm, is_fair}
use Rattle.served_rings.proofs.of_few_replies.Few.{not_true}
use Rattle.packets_heard.specs.of_protocol_models.FoeMails as Foe
use Rattle.packets_heard.specs.of_protocol_models.FoeModel.{foe_exchange}
use Rattle.packets_heard.specs.of_protocol_models.FoeOctets as FoeOctets
use Rattle.packets_heard.specs.of_link_mails.Body.{Body}
use Rattle.served_rings.specs.of_mailbox_mail.declared.mail.Kind.{Kind}
use Rattle.served_rings.specs.of_mailbox_mail.declared.mail.MailFault.TheVariants.{UnknownKind}
use Rattle.packets_heard.specs.of_master_hand.Joins.{fragment_in}
use Rattle.packets_heard.specs.Packets.{parts}
use Rattle.run_promises.specs.Sends.{of_network, is_network}
use Rattle.run_promises.proofs.Cuts.{parts_append}
use Rattle.run_promises.proofs.Outcomes.{OfMail, OfMessage, OfTransfer, outcome, written}
use Rattle.served_rings.specs.of_slave_model.Application.{station_elements, station_files, station_tables}
use Rattle.served_rings.specs.of_slave_model.Product.{served, refusal, side, serve, serve_by, protocol_of}
use Rattle.served_rings.specs.of_slave_model.Profile.{Protocol, Profile, areas_of, serves}
use Rattle.served_rings.specs.of_slave_model.Server.{seat, told_by, heard_by, eoe_quiet, soe_quiet, refused_gives, failure}
use Rattle.served_rings.specs.of_slave_parts.Parts.{Core, Server, parts as real_parts}
use Rattle.served_rings.specs.of_slave_parts.Served.{product_whole}
use Rattle.packets_heard.specs.of_protocol_models.SoeMails as Soe
use Rattle.packets_heard.specs.of_protocol_models.SoeModel.{soe_exchange}
use Rattle.packets_heard.specs.of_protocol_models.SoeOctets as SoeOctets
use Rattle.packets_heard.specs.of_state_model.Families.{InState}

-- what a download of another entry emits is no packet
other_entry : (eoe : Bool) (t : Target) (bytes octets : List ℕ) → is_packet_entry t ≡ false → emission_of eoe t bytes ≡ Some (packet octets) → ⊥
other_entry eoe t bytes octets free e = by t.all (t.sub == 1) (t.index == 0x2F00) (t.index == 0x2F01) eoe free e
  where
    by : (all first emergencies packets eoe : Bool) → (not all && (first && packets)) ≡ false → (if all || not first then None else if emergencies then Some (emergency bytes) else if eoe && packets then Some (packet bytes) else None) ≡ Some (packet octets) → ⊥
    by true first emergencies packets eoe free e = cc
    by false false emergencies packets eoe free e = cc
    by false true true packets eoe free e = cc
    by false true false true eoe free e = cc
    by false true false false true free e = cc
    by false true false false false free e = cc

-- mails of other downloads alone
abbrev IsOther : Target → Type 0
IsOther t = is_packet_entry t ≡ false

abbrev Never : List ℕ → Type 0
Never octets = ⊥

other_transfer : (transfer : Transfer) → brings_packet transfer ≡ false → OfTransfer IsOther transfer
other_transfer idle free = tt
other_transfer (downloading t size got toggle) free = free
other_transfer (uploading t rest toggle) free = tt

other_message : (c : Coe.Coe) → begins_message c ≡ false → OfMessage IsOther c
other_message (Coe.Expedited index sub all bytes) fair = fair
other_message (Coe.First index sub all size bytes) fair = fair
other_message c fair = tt

other_mail : (m : CoeMail) → begins_mail m ≡ false → OfMail IsOther m
other_mail (mail c) fair = other_message c fair
other_mail m fair = tt

pub map_append : {X Y : Type 0} (f : X → Y) (xs ys : List X) → map f (xs ++ ys) ≡ map f xs ++ map f ys
map_append f [] ys = refl
map_append f (x ∷ xs) ys = ap (λ l. f x ∷ l) (map_append f xs ys)

-- ---- FoE and SoE
pub foe_none : (ms : List Foe.FoeMail) → parts fragment_in (map (told_by FoeOctets.foe_mail_written) ms) ≡ []
foe_none [] = refl
foe_none (Foe.mail f ∷ ms) = foe_none ms
foe_none (Foe.unread fault ∷ ms) = foe_none ms
foe_none (Foe.failed detail ∷ ms) = foe_none ms
foe_none (Foe.other body ∷ ms) = foe_none ms

pub soe_none : (ms : List Soe.SoeMail) → parts fragment_in (map (told_by SoeOctets.soe_mail_written) ms) ≡ []
soe_none [] = refl
soe_none (Soe.mail m ∷ ms) = soe_none ms
soe_none (Soe.unread fault incomplete ∷ ms) = soe_none ms
soe_none (Soe.failed detail ∷ ms) = soe_none ms
soe_none (Soe.other body ∷ ms) = soe_none ms

-- ---- THE SLAVE
module _ (p : Profile) (al : ℕ) where
  emits_none : (app : Station Core) (e : Option Emission) → ((octets : List ℕ) → e ≡ Some (packet octets) → ⊥) → parts fragment_in (map written (issued (station_tables real_parts p.back al) app e).1) ≡ []
  emits_none app None n = refl
  emits_none app (Some (emergency octets)) n = refl
  emits_none app (Some (packet octets)) n = absurd (n octets refl)

  -- a protocol by which no packet goes
  serves_none : (i : Protocol) (j : Server) (b : Body) → (i ≡ Protocol.EoE → ⊥) → brings_packet j.sdo ≡ false → begins_packet b ≡ false → parts fragment_in ((served real_parts p al i).serve (seat i j) b).1 ≡ []
  serves_none Protocol.CoE j b net free fair =
      let m = heard_by CoeOctets.coe_mail_heard (other []) b in
      let x = coe_outcome (station_tables real_parts p.back al) p.has_eoe p.back j.app j.sdo m in
      let made = (issued (station_tables real_parts p.back al) x.app x.emission).1 in
      let q = outcome (λ s. Unit) Never IsOther (station_tables real_parts p.back al) p.has_eoe p.back j.app tt (λ t bytes changed free done. ((λ octets e. other_entry p.has_eoe t bytes octets free e), tt)) j.sdo m (other_transfer j.sdo free) (other_mail m fair) in
      ap (parts fragment_in) (map_append written x.answers made) ∙ parts_append (map written x.answers) (map written made)
      ∙ (λ k. q.none k ++ emits_none x.app x.emission q.fits k)
  serves_none Protocol.FoE j b net free fair = foe_none ((foe_exchange (station_files real_parts al) (areas_of p)).serve (seat Protocol.FoE j) (heard_by FoeOctets.foe_mail_heard (Foe.other []) b)).1
  serves_none Protocol.SoE j b net free fair = soe_none ((soe_exchange (station_elements real_parts) (areas_of p)).serve (seat Protocol.SoE j) (heard_by SoeOctets.soe_mail_heard (Soe.other []) b)).1
  serves_none Protocol.EoE j b net free fair = absurd (net refl)

  quiet_or : (b : Bool) → parts fragment_in (if b then [] else failure 2 ∷ []) ≡ []
  quiet_or true = refl
  quiet_or false = refl

  pub refuses_none : (i : Protocol) (b : Body) → parts fragment_in (refused_gives i b) ≡ []
  refuses_none Protocol.CoE b = refl
  refuses_none Protocol.FoE b = refl
  refuses_none Protocol.SoE b = quiet_or (soe_quiet (heard_by SoeOctets.soe_mail_heard (Soe.other []) b))
  refuses_none Protocol.EoE b = quiet_or (eoe_quiet (heard_by EoeOctets.eoe_mail_heard (Eoe.other []) b))

  sides_none : (i : Protocol) (j : Server) (b : Body) → (i ≡ Protocol.EoE → ⊥) → brings_packet j.sdo ≡ false → begins_packet b ≡ false → parts fragment_in ((side real_parts p al i).serve (seat i j) b).1 ≡ []
  sides_none i j b net free fair = go (serves p al i)
    where
      go : (on : Bool) → parts fragment_in ((gated on (served real_parts p al i) (refusal real_parts p al i)).serve (seat i j) b).1 ≡ []
      go true = serves_none i j b net free fair
      go false = refuses_none i b

  by_none : (j : Server) (b : Body) (kind : Kind) → of_network kind ≡ false → brings_packet j.sdo ≡ false → begins_packet b ≡ false → parts fragment_in (serve_by real_parts p al j b kind (protocol_of kind)).1 ≡ []
  by_none j b Kind.CoE net free fair = sides_none Protocol.CoE j b (λ e. absurd (cc)) free fair
  by_none j b Kind.FoE net free fair = sides_none Protocol.FoE j b (λ e. absurd (cc)) free fair
  by_none j b Kind.SoE net free fair = sides_none Protocol.SoE j b (λ e. absurd (cc)) free fair
  by_none j b Kind.EoE net free fair = absurd (let bad : true ≡ false = net in cc)
  by_none j b Kind.Error net free fair = refl
  by_none j b Kind.AoE net free fair = refl
  by_none j b Kind.VoE net free fair = refl

  serve_none : (j : Server) (b : Body) → is_network b ≡ false → brings_packet j.sdo ≡ false → begins_packet b ≡ false → parts fragment_in (serve real_parts p al j b).1 ≡ []
  serve_none j (Ok m) net free fair = by_none j (Ok m) m.kind net free fair
  serve_none j (Err UnknownKind) net free fair = refl
  serve_none j (Err fault) net free fair = refl

pub passed_none : (p : Profile) (v : InState Server) (b : Body) → is_calm v ≡ true → is_fair b ≡ true → is_network b ≡ false → parts fragment_in ((product_whole real_parts p).serve v b).1 ≡ []
passed_none p v b calm fair net = serve_none p v.state v.inner b net (not_true (brings_packet v.inner.sdo) calm) (not_true (begins_packet b) fair)
