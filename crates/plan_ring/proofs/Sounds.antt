-- A SLAVE'S SERVER STAYS SOUND, whatever mails it takes in whatever AL states: what it gives has room, and its services act on what laws speak of.
use Rattle.std.proofs.Common.{◌≡◌, ℕ, suc, ◌+◌, ◌-◌, ◌*◌, ◌/◌, ◌<◌, ◌≤◌, ◌&&◌, Bool, true, false, List, [], ◌∷◌, ◌++◌, map, length, Option, Some, None, Result, Ok, Err, refl, ap, sym, ◌∙◌, subst, arith, lt-ltb, ltb-true}
use Rattle.std.specs.Prelude.{if◌then◌else◌, is_none}
use Rattle.slave_server.specs.of_mailbox_mail.declared.mail.Mail.{Mail}
use Rattle.slave_server.specs.of_mailbox_mail.declared.mail.Kind.{Kind}
use Rattle.slave_server.specs.of_mailbox_mail.declared.mail.MailFault.TheVariants.{Short, LengthPastArea, UnknownKind}
use Rattle.slave_server.specs.of_link_mails.Body.{Body}
use Rattle.slave_server.specs.of_eoe.declared.message.Eoe.TheVariants.{Fragment as Part}
use Rattle.slave_server.specs.of_eoe.declared.message.Fragment.{Fragment}
use Rattle.slave_server.specs.of_eoe.Cutting.{fragments_of}
use Rattle.slave_server.specs.of_eoe.Message.{eoe_text}
use Rattle.slave_server.specs.of_exchange_model.Refusing.{gated}
use Rattle.slave_server.specs.of_protocol_models.CoeMails.{fragment}
use Rattle.slave_server.specs.of_protocol_models.CoeMails as CoeMails
use Rattle.slave_server.specs.of_protocol_models.CoeOctets as CoeOctets
use Rattle.slave_server.specs.of_protocol_models.CoeOctets.{coe_mail_written}
use Rattle.slave_server.specs.of_protocol_models.CoeServer as Coe
use Rattle.slave_server.specs.of_protocol_models.FoeMails as FoeMails
use Rattle.slave_server.specs.of_protocol_models.FoeOctets as FoeOctets
use Rattle.slave_server.specs.of_protocol_models.FoeServer as Foe
use Rattle.slave_server.specs.of_protocol_models.SoeMails as SoeMails
use Rattle.slave_server.specs.of_protocol_models.SoeOctets as SoeOctets
use Rattle.slave_server.specs.of_protocol_models.EoeMails as EoeMails
use Rattle.slave_server.specs.of_protocol_models.EoeOctets as EoeOctets
use Rattle.slave_server.specs.of_protocol_models.Network.{Station}
use Rattle.slave_server.specs.of_object_dictionary.Dictionary as Objects
use Rattle.slave_server.specs.of_file_store.Files as Store
use Rattle.slave_server.specs.of_idn_table.Idns as Idns
use Rattle.slave_server.specs.of_slave_model.Application.{Core, ArePartsLawful, core_valid, station_valid, with_objects, stored, written, station_tables, station_files, station_elements, network}
use Rattle.slave_server.specs.of_slave_model.Profile.{Protocol, Profile, IsProfile, serves}
use Rattle.slave_server.specs.of_slave_model.Server.{seat, reseated, one_more, heard_by, failure, refused_counts, refused_gives, soe_quiet, eoe_quiet}
use Rattle.slave_server.specs.of_slave_model.Product.{protocol_of, served, refusal, serve_by, serve_other, serve}
use Rattle.slave_server.proofs.of_slave_model.Stations.{both, left_of, right_of, tables_law, tables_spelled, files_law, elements_law}
use Rattle.slave_server.specs.of_slave_parts.Parts as The
use Rattle.slave_server.specs.of_slave_parts.Parts.{Server, parts}
use Rattle.slave_server.specs.Serving as Serving
use Rattle.whole_ring.specs.of_slave_lives.Nodes.{IsPlaced}
use Rattle.plan_ring.specs.Rooms.{AllPlaced, MayWrite, IsUnderWay, IsSound}
use Rattle.plan_ring.proofs.Rooms.{body_placed, error_placed, all_append, told, fragments_placed}
use Rattle.plan_ring.proofs.CoeRooms as CoeRooms
use Rattle.plan_ring.proofs.FoeRooms as FoeRooms
use Rattle.plan_ring.proofs.DriveRooms as DriveRooms

abbrev At : Type 0
At = Station The.Core

-- a station with these files, of which the laws speak
record Kept (back : ℕ) (files : Store.Kept) (s : At) : Type 0 where
  valid : station_valid parts s ≡ true
  block : length s.app.block + 10 ≤ back
  same : s.app.files ≡ files

-- what a mail leaves: a server of which the laws speak, and mails that have room
record Left (back : ℕ) (j : Server) (mails : List Body) : Type 0 where
  valid : station_valid parts j.app ≡ true
  block : length j.app.app.block + 10 ≤ back
  file : IsUnderWay j.app.app.files j.file
  placed : AllPlaced back (Serving.written mails)

stored_keeps : (s changed : At) (r : Result Objects.Table ℕ) → stored s r ≡ Ok changed → (changed.app.block ≡ s.app.block) × (changed.app.files ≡ s.app.files)
stored_keeps s changed (Ok objects) e = let same : with_objects s objects ≡ changed = cc in (sym (ap (λ (k : At). k.app.block) same), sym (ap (λ (k : At). k.app.files) same))
stored_keeps s changed (Err code) e = absurd (cc)

written_keeps : (s changed : At) (r : Result Idns.Table ℕ) → written s r ≡ Ok changed → (changed.app.block ≡ s.app.block) × (changed.app.files ≡ s.app.files)
written_keeps s changed (Ok idns) e = let same : record s { app = record s.app { idns = idns } } ≡ changed = cc in (sym (ap (λ (k : At). k.app.block) same), sym (ap (λ (k : At). k.app.files) same))
written_keeps s changed (Err code) e = absurd (cc)

map_texts : (fs : List Fragment) → map (λ body. coe_mail_written (fragment body)) (map (λ (f : Fragment). eoe_text (Part f)) fs) ≡ map (λ f. coe_mail_written (fragment (eoe_text (Part f)))) fs
map_texts [] = refl
map_texts (f ∷ fs) = ap (λ l. coe_mail_written (fragment (eoe_text (Part f))) ∷ l) (map_texts fs)

module _ (law : ArePartsLawful parts) (p : Profile) (is : IsProfile p) (al : ℕ) where
  -- a server as it was, with one mailbox error or nothing
  fails : (j : Server) (detail : ℕ) → Left p.back j [] → Left p.back (record j { handled = suc j.handled }) (failure detail ∷ [])
  fails j detail l = record { valid = l.valid; block = l.block; file = l.file; placed = (error_placed p.back is.back_least is.back_most detail, tt) }

  other : (j : Server) (kind : Kind) → Left p.back j [] → Left p.back (serve_other parts p al j kind).0 (serve_other parts p al j kind).1
  other j Kind.Error l = l
  other j Kind.AoE l = fails j 2 l
  other j Kind.EoE l = fails j 2 l
  other j Kind.CoE l = fails j 2 l
  other j Kind.FoE l = fails j 2 l
  other j Kind.SoE l = fails j 2 l
  other j Kind.VoE l = fails j 2 l

  -- each protocol, served
  by_sdo : (j : Server) (b : Body) → Left p.back j [] → (let g = (served parts p al Protocol.CoE).serve (seat Protocol.CoE j) b in Left p.back (reseated Protocol.CoE j g.0) g.1)
  by_sdo j b l =
      let T = station_tables parts p.back al in
      let tables = tables_law parts law p.back al in
      let spelled = tables_spelled parts law p.back al in
      let m = heard_by CoeOctets.coe_mail_heard (CoeMails.other []) b in
      let x = Coe.coe_outcome T p.has_eoe p.back j.app j.sdo m in
      let g = CoeRooms.serves T (Kept p.back j.app.app.files)
      (λ s changed t bytes k e. let keeps = stored_keeps s changed ((parts.tables al).download s.app.objects t bytes) e in
      record { valid = tables.stays s changed t bytes k.valid e; block = subst (λ (l : List ℕ). length l + 10 ≤ p.back) (sym keeps.0) k.block; same = keeps.1 ∙ k.same })
      (λ s octets k. record { valid = tables.stays_cut s octets k.valid; block = k.block; same = k.same })
      (λ s changed eoe t bytes octets k e emits. spelled.eight s changed eoe t bytes octets k.valid e emits)
      p.back is.back_least is.back_most
      (λ s octets. subst (λ ms. AllPlaced p.back ms) (sym (map_texts (fragments_of octets (32 * ((p.back - 10) / 32)) s.frame)))
      (fragments_placed p.back is.back_least is.back_most (λ f. coe_mail_written (fragment (eoe_text (Part f)))) (λ f few. body_placed p.back is.back_least is.back_most Kind.EoE (eoe_text (Part f)) few) octets s.frame (length octets) 0 0))
      p.has_eoe j.app j.sdo m (record { valid = l.valid; block = l.block; same = refl }) in
      record {
        valid = g.is.valid;
        block = g.is.block;
        file = subst (λ files. IsUnderWay files j.file) (sym g.is.same) l.file;
        placed = told p.back is.back_least is.back_most coe_mail_written (x.answers ++ (Coe.issued T x.app x.emission).1) g.placed;
      }

  going_in : (s : At) (tr : Foe.Transfer) → IsUnderWay s.app.files tr → FoeRooms.GoingBy (station_files parts al) (λ s name. MayWrite s.app.files name) s tr
  going_in s Foe.idle k = k
  going_in s (Foe.reading number left) k = k
  going_in s (Foe.writing name number got) k = k
  going_in s (Foe.closing name number got counted) k = k

  going_out : (s : At) (tr : Foe.Transfer) → FoeRooms.GoingBy (station_files parts al) (λ s name. MayWrite s.app.files name) s tr → IsUnderWay s.app.files tr
  going_out s Foe.idle k = k
  going_out s (Foe.reading number left) k = k
  going_out s (Foe.writing name number got) k = k
  going_out s (Foe.closing name number got counted) k = k

  by_file : (j : Server) (b : Body) → Left p.back j [] → (let g = (served parts p al Protocol.FoE).serve (seat Protocol.FoE j) b in Left p.back (reseated Protocol.FoE j g.0) g.1)
  by_file j b l =
      let m = heard_by FoeOctets.foe_mail_heard (FoeMails.other []) b in
      let g = FoeRooms.outcome (station_files parts al) (λ s. (station_valid parts s ≡ true) × (length s.app.block + 10 ≤ p.back)) (λ s name. MayWrite s.app.files name)
      (λ s name pass k e. record { pass = pass; al = al; allowed = e })
      (λ s name bytes k may room. ((files_law parts law may.al).stays s name bytes may.pass k.0 may.allowed room, k.1))
      p.out p.back is.back_least is.back_most j.app j.file m (l.valid, l.block) (going_in j.app j.file l.file) in
      record { valid = g.app.0; block = g.app.1; file = (let x = Foe.foe_outcome (station_files parts al) p.out p.back j.app j.file m in going_out x.app x.transfer g.going); placed = told p.back is.back_least is.back_most FoeOctets.foe_mail_written _ g.answers }

  by_drive : (j : Server) (b : Body) → Left p.back j [] → (let g = (served parts p al Protocol.SoE).serve (seat Protocol.SoE j) b in Left p.back (reseated Protocol.SoE j g.0) g.1)
  by_drive j b l =
      let m = heard_by SoeOctets.soe_mail_heard (SoeMails.other []) b in
      let g = DriveRooms.soe_outcome p.back is.back_least is.back_most (station_elements parts) (Kept p.back j.app.app.files)
      (λ s changed t bytes k e. let keeps = written_keeps s changed (parts.elements.write s.app.idns t bytes) e in
      record { valid = (elements_law parts law).stays s changed t bytes k.valid e; block = subst (λ (l : List ℕ). length l + 10 ≤ p.back) (sym keeps.0) k.block; same = keeps.1 ∙ k.same })
      j.app j.join m (record { valid = l.valid; block = l.block; same = refl }) in
      record { valid = g.app.valid; block = g.app.block; file = subst (λ files. IsUnderWay files j.file) (sym g.app.same) l.file; placed = told p.back is.back_least is.back_most SoeOctets.soe_mail_written _ g.answers }

  -- a core with these files
  record KeptCore (files : Store.Kept) (c : The.Core) : Type 0 where
    valid : core_valid parts c ≡ true
    block : length c.block + 10 ≤ p.back
    same : c.files ≡ files

  set_keeps : (files : Store.Kept) (c changed : The.Core) (block : List ℕ) (fixed : Bool) → KeptCore files c → length block + 10 ≤ p.back → (if fixed then None else Some (record c { block = block })) ≡ Some changed → KeptCore files changed
  set_keeps files c changed block true k few e = absurd (cc)
  set_keeps files c changed block false k few e =
      let same : record c { block = block } ≡ changed = cc in subst (KeptCore files) same (record { valid = k.valid; block = few; same = k.same })

  by_net : (j : Server) (b : Body) → Left p.back j [] → (let g = (served parts p al Protocol.EoE).serve (seat Protocol.EoE j) b in Left p.back (reseated Protocol.EoE j g.0) g.1)
  by_net j b l =
      let m = heard_by EoeOctets.eoe_mail_heard (EoeMails.other []) b in
      let frame : j.app.frame < 16 = ltb-true j.app.frame 16 (right_of (core_valid parts j.app.app) _ l.valid) in
      let g = DriveRooms.eoe_outcome p.back is.back_least is.back_most (network parts p) (KeptCore j.app.app.files) (λ c octets k. k)
      (λ c changed block k few e. set_keeps j.app.app.files c changed block p.fixed_ip k few e) (λ c k. k.block)
      j.app j.packet m (record { app = record { valid = left_of (core_valid parts j.app.app) _ l.valid; block = l.block; same = refl }; frame = omega (arith, frame) }) in
      record {
        valid = both _ _ g.at.app.valid (lt-ltb _ 16 (let few = g.at.frame in omega (arith, few)));
        block = g.at.app.block;
        file = subst (λ files. IsUnderWay files j.file) (sym g.at.app.same) l.file;
        placed = told p.back is.back_least is.back_most EoeOctets.eoe_mail_written _ g.gives;
      }

  by_protocol : (i : Protocol) (j : Server) (b : Body) → Left p.back j [] → (let g = (served parts p al i).serve (seat i j) b in Left p.back (reseated i j g.0) g.1)
  by_protocol Protocol.CoE j b l = by_sdo j b l
  by_protocol Protocol.FoE j b l = by_file j b l
  by_protocol Protocol.SoE j b l = by_drive j b l
  by_protocol Protocol.EoE j b l = by_net j b l

  -- or refused
  counted : (i : Protocol) (c : Bool) (j : Server) (ms : List Body) → Left p.back j [] → AllPlaced p.back (Serving.written ms) → Left p.back (reseated i j (if c then one_more Objects.Table Store.Kept Idns.Table i (seat i j) else seat i j)) ms
  counted Protocol.CoE true j ms l few = record { valid = l.valid; block = l.block; file = l.file; placed = few }
  counted Protocol.CoE false j ms l few = record { valid = l.valid; block = l.block; file = l.file; placed = few }
  counted Protocol.FoE true j ms l few = record { valid = l.valid; block = l.block; file = l.file; placed = few }
  counted Protocol.FoE false j ms l few = record { valid = l.valid; block = l.block; file = l.file; placed = few }
  counted Protocol.SoE true j ms l few = record { valid = l.valid; block = l.block; file = l.file; placed = few }
  counted Protocol.SoE false j ms l few = record { valid = l.valid; block = l.block; file = l.file; placed = few }
  counted Protocol.EoE true j ms l few = record { valid = l.valid; block = l.block; file = l.file; placed = few }
  counted Protocol.EoE false j ms l few = record { valid = l.valid; block = l.block; file = l.file; placed = few }

  two : AllPlaced p.back (Serving.written (failure 2 ∷ []))
  two = (error_placed p.back is.back_least is.back_most 2, tt)

  quiet_or : (b : Bool) → AllPlaced p.back (Serving.written (if b then [] else failure 2 ∷ []))
  quiet_or true = tt
  quiet_or false = two

  refused : (i : Protocol) (b : Body) → AllPlaced p.back (Serving.written (refused_gives i b))
  refused Protocol.CoE b = two
  refused Protocol.FoE b = two
  refused Protocol.SoE b = quiet_or (soe_quiet (heard_by SoeOctets.soe_mail_heard (SoeMails.other []) b))
  refused Protocol.EoE b = quiet_or (eoe_quiet (heard_by EoeOctets.eoe_mail_heard (EoeMails.other []) b))

  by_side : (i : Protocol) (on : Bool) (j : Server) (b : Body) → Left p.back j [] → (let g = (gated on (served parts p al i) (refusal parts p al i)).serve (seat i j) b in Left p.back (reseated i j g.0) g.1)
  by_side i true j b l = by_protocol i j b l
  by_side i false j b l = counted i (refused_counts i b) j (refused_gives i b) l (refused i b)

  by_kind : (kind : Kind) (found : Option Protocol) (j : Server) (b : Body) → Left p.back j [] → Left p.back (serve_by parts p al j b kind found).0 (serve_by parts p al j b kind found).1
  by_kind kind (Some i) j b l = by_side i (serves p al i) j b l
  by_kind kind None j b l = other j kind l

  -- ANY MAIL
  serves_any : (j : Server) (b : Body) → Left p.back j [] → Left p.back (serve parts p al j b).0 (serve parts p al j b).1
  serves_any j (Ok m) l = by_kind m.kind (protocol_of m.kind) j (Ok m) l
  serves_any j (Err UnknownKind) l = fails j 2 l
  serves_any j (Err Short) l = fails j 8 l
  serves_any j (Err LengthPastArea) l = fails j 8 l

  pub sound_takes : (s : Serving.Serving) (b : Body) → IsSound p s → IsSound p (Serving.takes (record s { profile = p }) b al)
  sound_takes s b i =
      let l = serves_any s.server b (record { valid = i.valid; block = i.block; file = i.file; placed = tt }) in
      record { profile = refl; waiting = all_append p.back is.back_least is.back_most s.waiting (Serving.written (serve parts p al s.server b).1) i.waiting l.placed; block = l.block; valid = l.valid; file = l.file }

module _ (p : Profile) where
  behind_placed : (ms : List Mail) → AllPlaced p.back ms → AllPlaced p.back (Serving.behind_first ms)
  behind_placed [] all = tt
  behind_placed (m ∷ ms) all = all.1

  pub sound_rests : (s : Serving.Serving) → IsSound p s → IsSound p (Serving.rest s)
  sound_rests s i = record { profile = i.profile; waiting = behind_placed s.waiting i.waiting; block = i.block; valid = i.valid; file = i.file }

  pub sound_clears : (s : Serving.Serving) → IsSound p s → IsSound p (Serving.cleared s)
  sound_clears s i = record { profile = i.profile; waiting = tt; block = i.block; valid = both _ _ (left_of (core_valid parts s.server.app.app) _ i.valid) refl; file = tt }

  first_placed : (ms : List Mail) → AllPlaced p.back ms → (m : Mail) → Serving.first_of ms ≡ Some m → IsPlaced p.back m
  first_placed [] all m e = absurd (let no_ : None ≡ Some m = e in cc)
  first_placed (x ∷ xs) all m e = let same : x ≡ m = (let f : Some x ≡ Some m = e in cc) in subst (IsPlaced p.back) same all.0

  pub sound_placed : (s : Serving.Serving) → IsSound p s → (m : Mail) → Serving.next_mail s ≡ Some m → IsPlaced p.back m
  sound_placed s i m e = first_placed s.waiting i.waiting m e

  -- a cleared server is one of which the laws speak
  pub sound_ready : (s : Serving.Serving) → IsSound p s → Serving.cleared s ≡ s → (station_valid parts s.server.app && is_none s.server.join) ≡ true
  sound_ready s i e = both (station_valid parts s.server.app) (is_none s.server.join) i.valid (ap (λ (k : Serving.Serving). is_none k.server.join) (sym e))
