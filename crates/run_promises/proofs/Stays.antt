-- Whatever service a slave carries out, it may send packets behind it.
use Rattle.std.proofs.Common.{◌≡◌, ℕ, ◌-◌, ◌≤◌, ◌&&◌, ◌||◌, ◌==◌, nat_le, Bool, true, false, not, List, [], length, Option, Some, None, Result, Ok, Err, refl, subst, arith, eqb-true, if◌then◌else◌}
use Rattle.packets_heard.specs.of_object_dictionary.declared.entry.EntrySpec.{EntrySpec}
use Rattle.packets_heard.specs.of_object_dictionary.declared.object.Object.{Object}
use Rattle.packets_heard.specs.of_object_dictionary.Entries.{download_entry}
use Rattle.packets_heard.specs.of_object_dictionary.Dictionary.{Table, object_of, is_count, entry_place, entry_at, download_found, download_object, changed, download}
use Rattle.packets_heard.specs.of_object_dictionary.Whole.{download_all}
use Rattle.packets_heard.specs.of_object_dictionary.Sound.{is_object, are_sized, is_table}
use Rattle.packets_heard.proofs.of_object_dictionary.Tests.{both, all_get}
use Rattle.packets_heard.proofs.of_object_dictionary.Kept.{entry_kept, map_ok, row_of, table_is}
use Rattle.packets_heard.specs.of_eoe.Address.{is_block}
use Rattle.packets_heard.specs.of_idn_table.Idns as Idns
use Rattle.served_rings.specs.of_mailbox_mail.declared.outcome.ReplyKind.{ReplyKind}
use Rattle.packets_heard.specs.of_protocol_models.CoeMeaning as CoeMeaning
use Rattle.packets_heard.specs.of_protocol_models.CoeServer.{Emission, emergency, packet, emission_of, issued}
use Rattle.packets_heard.specs.of_protocol_models.Tables as Tables
use Rattle.packets_heard.specs.of_coe_server.ObjectTables.{stores}
use Rattle.packets_heard.proofs.of_coe_server.ObjectsLaw.{lawful}
use Rattle.packets_heard.specs.of_protocol_models.FoeMeaning as FoeMeaning
use Rattle.packets_heard.specs.of_protocol_models.SoeClient as SoeClient
use Rattle.packets_heard.specs.of_protocol_models.EoeClient as EoeClient
use Rattle.packets_heard.specs.of_protocol_models.Echo.{echo_of}
use Rattle.packets_heard.specs.of_protocol_models.Network.{Station}
use Rattle.packets_heard.specs.of_protocol_models.EoeServer.{sends}
use Rattle.packets_heard.specs.of_exchange_model.Refusing.{gated}
use Rattle.served_rings.specs.of_slave_model.Application.{stored, written, station_tables, station_files, station_elements, network}
use Rattle.served_rings.specs.of_slave_model.Product.{served, refusal, side}
use Rattle.served_rings.specs.of_slave_model.Profile.{Protocol, Profile, serves}
use Rattle.served_rings.specs.of_slave_model.Server.{ServiceOf}
use Rattle.served_rings.specs.of_slave_parts.Parts.{Core, parts}
use Rattle.run_promises.specs.Sends.{MaySend}

-- ---- the octets of a packet that a download emits
sized : (al : ℕ) (o new : Object) (sub : ℕ) (bytes : List ℕ) → are_sized 14 1514 o.entries ≡ true → download_object al o sub bytes ≡ Ok new → (14 ≤ length bytes) × (length bytes ≤ 1514)
sized al o new sub bytes all done = by (is_count o sub) (entry_at o sub) refl done
  where
    by : (b : Bool) (r : Option EntrySpec) → entry_at o sub ≡ r → (if b then Err 0x06010002 else download_found al o (entry_place o sub) bytes r) ≡ Ok new → (14 ≤ length bytes) × (length bytes ≤ 1514)
    by true r at done = absurd (cc)
    by false None at done = absurd (cc)
    by false (Some e) at done =
        let (entry, stored, is) = map_ok _ (download_entry al e bytes) new done in
        let k = entry_kept al e entry bytes stored in
        let s = both (e.least == 14) (e.most == 1514) (all_get (λ (x : EntrySpec). x.least == 14 && x.most == 1514) o.entries (entry_place o sub) e all at) in
        let a = eqb-true e.least 14 s.0 in
        let b = eqb-true e.most 1514 s.1 in
        (omega (arith, a, k.1), omega (arith, b, k.2))

packet_size : (al : ℕ) (table new : Table) (sub : ℕ) (bytes : List ℕ) → is_table table ≡ true → download al table 0x2F01 sub bytes ≡ Ok new → (14 ≤ length bytes) × (length bytes ≤ 1514)
packet_size al table new sub bytes sound done = by (object_of table 0x2F01) refl done
  where
    by : (r : Option Object) → object_of table 0x2F01 ≡ r → changed table 0x2F01 (λ o. download_object al o sub bytes) r ≡ Ok new → (14 ≤ length bytes) × (length bytes ≤ 1514)
    by None at done = absurd (cc)
    by (Some o) at done =
        let (p, made, is) = map_ok _ (download_object al o sub bytes) new done in
        let row = row_of table 0x2F01 o (table_is table sound).rows at in
        sized al o p sub bytes (both (is_object o) (are_sized 14 1514 o.entries) row).1 made

pub emitted_sized : (al : ℕ) (table new : Table) (t : Tables.Target) (bytes octets : List ℕ) (eoe : Bool) → is_table table ≡ true → stores al table t bytes ≡ Ok new → emission_of eoe t bytes ≡ Some (packet octets) → (14 ≤ length octets) × (length octets ≤ 1514)
emitted_sized al table new t bytes octets eoe sound done is = by t.all (t.sub == 1) (t.index == 0x2F00) eoe (t.index == 0x2F01) refl done is
  where
    Fits : Type 0
    Fits = (14 ≤ length octets) × (length octets ≤ 1514)

    by : (a s e : Bool) (eoe : Bool) (p : Bool) → (t.index == 0x2F01) ≡ p → (if a then download_all al table t.index t.sub bytes else download al table t.index t.sub bytes) ≡ Ok new →
        (if a || not s then None else if e then Some (emergency bytes) else if eoe && p then Some (packet bytes) else None) ≡ Some (packet octets) → Fits
    by true s e eoe p pi done is = absurd (cc)
    by false false e eoe p pi done is = absurd (cc)
    by false true true eoe p pi done is = absurd (cc)
    by false true false true true pi done is =
        let same : bytes ≡ octets = cc in
        subst (λ (l : List ℕ). (14 ≤ length l) × (length l ≤ 1514)) same (packet_size al table new t.sub bytes sound (subst (λ i. download al table i t.sub bytes ≡ Ok new) (eqb-true t.index 0x2F01 pi) done))
    by false true false true false pi done is = absurd (cc)
    by false true false false p pi done is = absurd (cc)

-- ---- each protocol
pub issued_stays : (room al : ℕ) (s : Station Core) (e : Option Emission) → MaySend s → MaySend (issued (station_tables parts room al) s e).0
issued_stays room al s None may = may
issued_stays room al s (Some (emergency octets)) may = may
issued_stays room al s (Some (packet octets)) may = record { table = may.table; frame = omega arith }

pub stored_table : (al : ℕ) (table new : Table) (t : Tables.Target) (bytes : List ℕ) → is_table table ≡ true → stores al table t bytes ≡ Ok new → is_table new ≡ true
stored_table al table new t bytes sound done = (lawful (λ octets. []) al).stays table new t bytes sound done

pub coe_stays : (p : Profile) (al : ℕ) (s : Station Core) (q : CoeMeaning.Service) → MaySend s → MaySend (CoeMeaning.meaning_of (station_tables parts p.back al) p.has_eoe s q).app
coe_stays p al s (CoeMeaning.download t bytes) may = by (stores al s.app.objects t bytes) refl
  where
    by : (r : Result Table ℕ) → stores al s.app.objects t bytes ≡ r → MaySend (CoeMeaning.download_means (station_tables parts p.back al) p.has_eoe s t bytes (stored s r)).app
    by (Ok objects) done =
        issued_stays p.back al (record s { app = record s.app { objects = objects } }) (emission_of p.has_eoe t bytes) (record { table = stored_table al s.app.objects objects t bytes may.table done; frame = may.frame })
    by (Err code) done = may
coe_stays p al s (CoeMeaning.upload t) may = by ((station_tables parts p.back al).upload s t)
  where
    by : (r : Result (List ℕ) ℕ) → MaySend (CoeMeaning.value_means s r).app
    by (Ok bytes) = may
    by (Err code) = may
coe_stays p al s (CoeMeaning.information a) may = by ((station_tables parts p.back al).info s a)
  where
    by : (r : Result (List ℕ) ℕ) → MaySend (CoeMeaning.value_means s r).app
    by (Ok bytes) = may
    by (Err code) = may

pub foe_stays : (al : ℕ) (s : Station Core) (q : FoeMeaning.Service) → MaySend s → MaySend (FoeMeaning.meaning_of (station_files parts al) s q).app
foe_stays al s (FoeMeaning.read name pass) may = by ((station_files parts al).allowed s name pass false)
  where
    by : (found : Option ℕ) → MaySend (FoeMeaning.read_means (station_files parts al) s name found).app
    by None = may
    by (Some code) = may
foe_stays al s (FoeMeaning.write name pass bytes) may = by ((station_files parts al).allowed s name pass true)
  where
    room : (b : Bool) → MaySend (if b then record { app = (station_files parts al).put s name bytes; reply = (ReplyKind.Done, []) } else FoeMeaning.refused s 0x8003).app
    room true = record { table = may.table; frame = may.frame }
    room false = may

    by : (found : Option ℕ) → MaySend (FoeMeaning.write_means (station_files parts al) s name bytes found).app
    by None = room ((station_files parts al).has_room s (length bytes))
    by (Some code) = may

pub soe_stays : (s : Station Core) (q : SoeClient.Service) → MaySend s → MaySend (SoeClient.meaning_of (station_elements parts) s q).app
soe_stays s (SoeClient.read t) may = by ((station_elements parts).read s t)
  where
    by : (r : Result (List ℕ) ℕ) → MaySend (SoeClient.read_means s r).app
    by (Ok bytes) = may
    by (Err code) = may
soe_stays s (SoeClient.write t bytes) may = by (Idns.write_at s.app.idns t bytes)
  where
    by : (r : Result Idns.Table ℕ) → MaySend (SoeClient.write_means s (written s r)).app
    by (Ok idns) = record { table = may.table; frame = may.frame }
    by (Err code) = may

pub eoe_stays : (p : Profile) (s : Station Core) (q : EoeClient.Service) → MaySend s → MaySend (EoeClient.meaning_of (network parts p) p.back s q).station
eoe_stays p s (EoeClient.packet octets frame) may = by (echo_of p.mac octets)
  where
    by : (sent : Option (List ℕ)) → MaySend (sends p.back s.frame (s.app, sent)).0
    by None = record { table = may.table; frame = may.frame }
    by (Some octets) = record { table = may.table; frame = omega arith }
eoe_stays p s (EoeClient.set_ip block) may = by (is_block block && nat_le (length block) (p.back - 10)) p.fixed_ip
  where
    by : (a b : Bool) → MaySend (EoeClient.set_means s (if a then (if b then None else Some (record s.app { block = block })) else None)).station
    by true true = may
    by true false = record { table = may.table; frame = may.frame }
    by false b = may
eoe_stays p s EoeClient.get_ip may = may

served_stays : (p : Profile) (al : ℕ) (i : Protocol) (s : Station Core) (q : ServiceOf i) → MaySend s → MaySend ((served parts p al i).exec s q)
served_stays p al Protocol.CoE s q may = coe_stays p al s q may
served_stays p al Protocol.FoE s q may = foe_stays al s q may
served_stays p al Protocol.SoE s q may = soe_stays s q may
served_stays p al Protocol.EoE s q may = eoe_stays p s q may

pub side_stays : (p : Profile) (al : ℕ) (s : Station Core) (i : Protocol) (q : ServiceOf i) → MaySend s → MaySend ((side parts p al i).exec s q)
side_stays p al s i q may = by (serves p al i)
  where
    by : (b : Bool) → MaySend ((gated b (served parts p al i) (refusal parts p al i)).exec s q)
    by true = served_stays p al i s q may
    by false = may
