-- No service changes the shape of its slave.
use Rattle.std.proofs.Common.{◌≡◌, ℕ, zero, suc, ◌-◌, ◌&&◌, nat_le, Bool, true, false, cond, List, [], ◌∷◌, length, drop, Option, Some, None, Result, Ok, Err, refl, sym, ap, ap₂, ◌∙◌, slice_get, slice_set, if◌then◌else◌}
use Rattle.std.specs.Prelude.{unwrap_or, option_map, find, nat_eq}
use Rattle.std.specs.Map.{lookup, set_value}
use Rattle.slave_parts.specs.of_object_dictionary.declared.entry.EntrySpec.{EntrySpec}
use Rattle.slave_parts.specs.of_object_dictionary.declared.object.Object.{Object}
use Rattle.slave_parts.specs.of_object_dictionary.Entries.{download_entry}
use Rattle.slave_parts.specs.of_object_dictionary.Dictionary.{Table, object_of, is_count, entry_place, entry_at, with_entries, download_found, download_object, changed, download}
use Rattle.slave_parts.specs.of_object_dictionary.Whole.{with_values, ahead, whole_refusal, download_whole, download_all}
use Rattle.slave_parts.proofs.of_object_dictionary.Kept.{unless_ok, entry_kept, map_ok}
use Rattle.slave_parts.specs.of_file_store.Files as Store
use Rattle.slave_parts.specs.of_idn_table.Idns as Idns
use Rattle.slave_parts.specs.of_eoe.Address.{is_block}
use Rattle.slave_parts.specs.of_mailbox_mail.declared.outcome.ReplyKind.{ReplyKind}
use Rattle.slave_parts.specs.of_protocol_models.Tables as Tables
use Rattle.slave_parts.specs.of_protocol_models.CoeMeaning as CoeMeaning
use Rattle.slave_parts.specs.of_protocol_models.CoeServer.{Emission, emergency, packet, emission_of, issued}
use Rattle.slave_parts.specs.of_coe_server.ObjectTables.{stores}
use Rattle.slave_parts.specs.of_protocol_models.FoeMeaning as FoeMeaning
use Rattle.slave_parts.specs.of_protocol_models.SoeClient as SoeClient
use Rattle.slave_parts.specs.of_protocol_models.EoeClient as EoeClient
use Rattle.slave_parts.specs.of_protocol_models.Echo.{echo_of}
use Rattle.slave_parts.specs.of_protocol_models.Network.{Station}
use Rattle.slave_parts.specs.of_protocol_models.EoeServer.{sends}
use Rattle.slave_parts.specs.of_exchange_model.Refusing.{gated}
use Rattle.slave_parts.specs.of_slave_model.Application.{stored, written, station_tables, station_files, station_elements, network}
use Rattle.slave_parts.specs.of_slave_model.Product.{served, refusal, side}
use Rattle.slave_parts.specs.of_slave_model.Profile.{Protocol, Profile, serves}
use Rattle.slave_parts.specs.of_slave_model.Server.{ServiceOf}
use Rattle.slave_parts.specs.Parts.{Core, parts}
use Rattle.few_replies.specs.Shapes.{mosts, size_at, object_size, found_size, entry_size, shape_of}

-- ---- entries with other values

set_mosts : (entries : List EntrySpec) (place : ℕ) (e new : EntrySpec) → slice_get entries place ≡ Some e → new.most ≡ e.most → mosts (slice_set entries place new) ≡ mosts entries
set_mosts [] place e new at same = refl
set_mosts (x ∷ xs) zero e new at same = let is : x ≡ e = cc in ap (λ n. n ∷ mosts xs) (same ∙ ap (λ (y : EntrySpec). y.most) (sym is))
set_mosts (x ∷ xs) (suc place) e new at same = ap (λ l. x.most ∷ l) (set_mosts xs place e new at same)

values_mosts : (entries : List EntrySpec) (bytes : List ℕ) → mosts (with_values entries bytes) ≡ mosts entries
values_mosts [] bytes = refl
values_mosts (e ∷ es) bytes = ap (λ l. e.most ∷ l) (values_mosts es (drop e.most bytes))

-- an object with other values
record Alike (o new : Object) : Type 0 where
  code : new.code ≡ o.code
  sizes : mosts new.entries ≡ mosts o.entries

alike_by : (o new : Object) (entries : List EntrySpec) → with_entries o entries ≡ new → mosts entries ≡ mosts o.entries → Alike o new
alike_by o new entries is same = record { code = ap (λ (x : Object). x.code) (sym is); sizes = ap (λ (x : Object). mosts x.entries) (sym is) ∙ same }

object_alike : (al : ℕ) (o new : Object) (sub : ℕ) (bytes : List ℕ) → download_object al o sub bytes ≡ Ok new → Alike o new
object_alike al o new sub bytes done = by (is_count o sub) (entry_at o sub) refl done
  where
    by : (b : Bool) (found : Option EntrySpec) → entry_at o sub ≡ found → (if b then Err 0x06010002 else download_found al o (entry_place o sub) bytes found) ≡ Ok new → Alike o new
    by true found at done = absurd (cc)
    by false None at done = absurd (cc)
    by false (Some e) at done =
        let (entry, stores, is) = map_ok _ (download_entry al e bytes) new done in
        let most : entry.most ≡ e.most = ap (λ (x : EntrySpec). x.most) (entry_kept al e entry bytes stores).0 in
        alike_by o new (slice_set o.entries (entry_place o sub) entry) is (set_mosts o.entries (entry_place o sub) e entry at most)

whole_alike : (al : ℕ) (o new : Object) (from : ℕ) (bytes : List ℕ) → download_whole al o from bytes ≡ Ok new → Alike o new
whole_alike al o new from bytes done =
    let entries = with_values o.entries (drop (ahead from) bytes) in
    let is = (unless_ok (whole_refusal al o from bytes) (with_entries o entries) new done).1 in
    alike_by o new entries (sym is) (values_mosts o.entries (drop (ahead from) bytes))

same_size : (o new : Object) (sub : ℕ) → Alike o new → object_size sub new ≡ object_size sub o
same_size o new sub a = ap₂ (λ (c : ℕ) (l : List ℕ). size_at c l sub) a.code a.sizes

-- the table with it
row_choice : (b : Bool) (o new row : Object) (sub : ℕ) (later : Option Object) → Alike o new → row ≡ o → found_size sub (cond b (Some new) later) ≡ found_size sub (cond b (Some row) later)
row_choice true o new row sub later a is = same_size o new sub a ∙ ap (object_size sub) (sym is)
row_choice false o new row sub later a is = refl

later_choice : (b : Bool) (row : Object) (sub : ℕ) (later before : Option Object) → found_size sub later ≡ found_size sub before → found_size sub (cond b (Some row) later) ≡ found_size sub (cond b (Some row) before)
later_choice true row sub later before e = refl
later_choice false row sub later before e = e

set_sizes : (table : Table) (index : ℕ) (o new : Object) → lookup (nat_eq index) table ≡ Some o → Alike o new → (i sub : ℕ) → found_size sub (lookup (nat_eq i) (set_value (nat_eq index) table new)) ≡ found_size sub (lookup (nat_eq i) table)
set_sizes [] index o new at a i sub = refl
set_sizes (row ∷ rows) index o new at a i sub = by (nat_eq index row.0) at (λ later. set_sizes rows index o new later a i sub)
  where
    by : (b : Bool) → cond b (Some row.1) (lookup (nat_eq index) rows) ≡ Some o →
        (lookup (nat_eq index) rows ≡ Some o → found_size sub (lookup (nat_eq i) (set_value (nat_eq index) rows new)) ≡ found_size sub (lookup (nat_eq i) rows)) →
        found_size sub (lookup (nat_eq i) (cond b ((row.0, new) ∷ rows) (row ∷ set_value (nat_eq index) rows new))) ≡ found_size sub (lookup (nat_eq i) (row ∷ rows))
    by true at rest = row_choice (nat_eq i row.0) o new row.1 sub (lookup (nat_eq i) rows) a (let is : row.1 ≡ o = cc in is)
    by false at rest = later_choice (nat_eq i row.0) row.1 sub (lookup (nat_eq i) (set_value (nat_eq index) rows new)) (lookup (nat_eq i) rows) (rest at)

changed_sizes : (table new : Table) (index : ℕ) (change : Object → Result Object ℕ) → ((o p : Object) → change o ≡ Ok p → Alike o p) → changed table index change (object_of table index) ≡ Ok new →
    (i sub : ℕ) → entry_size new i sub ≡ entry_size table i sub
changed_sizes table new index change alike done i sub = by (object_of table index) refl done
  where
    by : (found : Option Object) → object_of table index ≡ found → changed table index change found ≡ Ok new → entry_size new i sub ≡ entry_size table i sub
    by None at done = absurd (cc)
    by (Some o) at done =
        let (p, made, is) = map_ok _ (change o) new done in
        ap (λ t. entry_size t i sub) (sym is) ∙ set_sizes table index o p at (alike o p made) i sub

pub stored_sizes : (al : ℕ) (table new : Table) (t : Tables.Target) (bytes : List ℕ) → stores al table t bytes ≡ Ok new → (i sub : ℕ) → entry_size new i sub ≡ entry_size table i sub
stored_sizes al table new t bytes done i sub = by t.all done
  where
    by : (b : Bool) → (if b then download_all al table t.index t.sub bytes else download al table t.index t.sub bytes) ≡ Ok new → entry_size new i sub ≡ entry_size table i sub
    by true done = changed_sizes table new t.index (λ o. download_whole al o t.sub bytes) (λ o p made. whole_alike al o p t.sub bytes made) done i sub
    by false done = changed_sizes table new t.index (λ o. download_object al o t.sub bytes) (λ o p made. object_alike al o p t.sub bytes made) done i sub

-- ---- files with other octets

file_choice : (b : Bool) (file new : Store.Filed) (later : Option Store.Filed) → new.spec ≡ file.spec →
    unwrap_or (option_map (λ (f : Store.Filed). f.spec.busy) (cond b (Some new) later)) 0 ≡ unwrap_or (option_map (λ (f : Store.Filed). f.spec.busy) (cond b (Some file) later)) 0
file_choice true file new later same = ap (λ s. s.busy) same
file_choice false file new later same = refl

busy_stays : (files : List Store.Filed) (name octets other : List ℕ) →
    unwrap_or (option_map (λ (f : Store.Filed). f.spec.busy) (find (Store.is_named other) (Store.rewritten files name octets))) 0 ≡ unwrap_or (option_map (λ (f : Store.Filed). f.spec.busy) (find (Store.is_named other) files)) 0
busy_stays [] name octets other = refl
busy_stays (file ∷ files) name octets other = by (Store.is_named name file) (busy_stays files name octets other)
  where
    later : (b : Bool) → unwrap_or (option_map (λ (f : Store.Filed). f.spec.busy) (find (Store.is_named other) (Store.rewritten files name octets))) 0 ≡ unwrap_or (option_map (λ (f : Store.Filed). f.spec.busy) (find (Store.is_named other) files)) 0 →
        unwrap_or (option_map (λ (f : Store.Filed). f.spec.busy) (cond b (Some file) (find (Store.is_named other) (Store.rewritten files name octets)))) 0 ≡ unwrap_or (option_map (λ (f : Store.Filed). f.spec.busy) (cond b (Some file) (find (Store.is_named other) files))) 0
    later true e = refl
    later false e = e

    by : (b : Bool) → unwrap_or (option_map (λ (f : Store.Filed). f.spec.busy) (find (Store.is_named other) (Store.rewritten files name octets))) 0 ≡ unwrap_or (option_map (λ (f : Store.Filed). f.spec.busy) (find (Store.is_named other) files)) 0 →
        unwrap_or (option_map (λ (f : Store.Filed). f.spec.busy) (find (Store.is_named other) (if b then record file { octets = octets } ∷ files else file ∷ Store.rewritten files name octets))) 0
        ≡ unwrap_or (option_map (λ (f : Store.Filed). f.spec.busy) (find (Store.is_named other) (file ∷ files))) 0
    by true e = file_choice (Store.is_named other file) file (record file { octets = octets }) (find (Store.is_named other) files) refl
    by false e = later (Store.is_named other file) e

-- ---- each protocol

pub with_table : (c : Core) (objects : Table) → ((i sub : ℕ) → entry_size objects i sub ≡ entry_size c.objects i sub) → shape_of (record c { objects = objects }) ≡ shape_of c
with_table c objects same = λ j. record { entry = λ index sub. same index sub j; busy = (shape_of c).busy; blocks = (shape_of c).blocks }

pub with_kept : (c : Core) (name octets : List ℕ) → shape_of (record c { files = Store.put c.files name octets }) ≡ shape_of c
with_kept c name octets = λ j. record { entry = (shape_of c).entry; busy = λ other. busy_stays c.files.files name octets other j; blocks = (shape_of c).blocks }

issued_shape : (room al : ℕ) (s : Station Core) (e : Option Emission) → shape_of (issued (station_tables parts room al) s e).0.app ≡ shape_of s.app
issued_shape room al s None = refl
issued_shape room al s (Some (emergency octets)) = refl
issued_shape room al s (Some (packet octets)) = refl

coe_shape : (p : Profile) (al : ℕ) (s : Station Core) (q : CoeMeaning.Service) → shape_of (CoeMeaning.meaning_of (station_tables parts p.back al) p.has_eoe s q).app.app ≡ shape_of s.app
coe_shape p al s (CoeMeaning.download t bytes) = by (stores al s.app.objects t bytes) refl
  where
    by : (r : Result Table ℕ) → stores al s.app.objects t bytes ≡ r → shape_of (CoeMeaning.download_means (station_tables parts p.back al) p.has_eoe s t bytes (stored s r)).app.app ≡ shape_of s.app
    by (Ok objects) done =
        issued_shape p.back al (record s { app = record s.app { objects = objects } }) (emission_of p.has_eoe t bytes) ∙ with_table s.app objects (λ i sub. stored_sizes al s.app.objects objects t bytes done i sub)
    by (Err code) done = refl
coe_shape p al s (CoeMeaning.upload t) = by ((station_tables parts p.back al).upload s t)
  where
    by : (r : Result (List ℕ) ℕ) → shape_of (CoeMeaning.value_means s r).app.app ≡ shape_of s.app
    by (Ok bytes) = refl
    by (Err code) = refl
coe_shape p al s (CoeMeaning.information a) = by ((station_tables parts p.back al).info s a)
  where
    by : (r : Result (List ℕ) ℕ) → shape_of (CoeMeaning.value_means s r).app.app ≡ shape_of s.app
    by (Ok bytes) = refl
    by (Err code) = refl

foe_shape : (al : ℕ) (s : Station Core) (q : FoeMeaning.Service) → shape_of (FoeMeaning.meaning_of (station_files parts al) s q).app.app ≡ shape_of s.app
foe_shape al s (FoeMeaning.read name pass) = by ((station_files parts al).allowed s name pass false)
  where
    by : (found : Option ℕ) → shape_of (FoeMeaning.read_means (station_files parts al) s name found).app.app ≡ shape_of s.app
    by None = refl
    by (Some code) = refl
foe_shape al s (FoeMeaning.write name pass bytes) = by ((station_files parts al).allowed s name pass true)
  where
    room : (b : Bool) → shape_of (if b then record { app = (station_files parts al).put s name bytes; reply = (ReplyKind.Done, []) } else FoeMeaning.refused s 0x8003).app.app ≡ shape_of s.app
    room true = with_kept s.app name bytes
    room false = refl

    by : (found : Option ℕ) → shape_of (FoeMeaning.write_means (station_files parts al) s name bytes found).app.app ≡ shape_of s.app
    by None = room ((station_files parts al).has_room s (length bytes))
    by (Some code) = refl

soe_shape : (s : Station Core) (q : SoeClient.Service) → shape_of (SoeClient.meaning_of (station_elements parts) s q).app.app ≡ shape_of s.app
soe_shape s (SoeClient.read t) = by ((station_elements parts).read s t)
  where
    by : (r : Result (List ℕ) ℕ) → shape_of (SoeClient.read_means s r).app.app ≡ shape_of s.app
    by (Ok bytes) = refl
    by (Err code) = refl
soe_shape s (SoeClient.write t bytes) = by (Idns.write_at s.app.idns t bytes)
  where
    by : (r : Result Idns.Table ℕ) → shape_of (SoeClient.write_means s (written s r)).app.app ≡ shape_of s.app
    by (Ok idns) = refl
    by (Err code) = refl

eoe_shape : (p : Profile) (s : Station Core) (q : EoeClient.Service) → shape_of (EoeClient.meaning_of (network parts p) p.back s q).station.app ≡ shape_of s.app
eoe_shape p s (EoeClient.packet octets frame) = by (echo_of p.mac octets)
  where
    by : (sent : Option (List ℕ)) → shape_of (sends p.back s.frame (s.app, sent)).0.app ≡ shape_of s.app
    by None = refl
    by (Some octets) = refl
eoe_shape p s (EoeClient.set_ip block) = by (is_block block && nat_le (length block) (p.back - 10)) p.fixed_ip
  where
    by : (a b : Bool) → shape_of (EoeClient.set_means s (if a then (if b then None else Some (record s.app { block = block })) else None)).station.app ≡ shape_of s.app
    by true true = refl
    by true false = refl
    by false b = refl
eoe_shape p s EoeClient.get_ip = refl

served_shape : (p : Profile) (al : ℕ) (i : Protocol) (s : Station Core) (q : ServiceOf i) → shape_of ((served parts p al i).exec s q).app ≡ shape_of s.app
served_shape p al Protocol.CoE s q = coe_shape p al s q
served_shape p al Protocol.FoE s q = foe_shape al s q
served_shape p al Protocol.SoE s q = soe_shape s q
served_shape p al Protocol.EoE s q = eoe_shape p s q

pub shape_stays : (p : Profile) (al : ℕ) (i : Protocol) (s : Station Core) (q : ServiceOf i) → shape_of ((side parts p al i).exec s q).app ≡ shape_of s.app
shape_stays p al i s q = by (serves p al i)
  where
    by : (b : Bool) → shape_of ((gated b (served parts p al i) (refusal parts p al i)).exec s q).app ≡ shape_of s.app
    by true = served_shape p al i s q
    by false = refl
