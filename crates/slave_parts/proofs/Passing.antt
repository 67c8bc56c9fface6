-- Any mail leaves a slave of which the laws speak: a protocol leaves the files of the others' servers, and FoE its own.
use Rattle.std.proofs.Common.{◌≡◌, ℕ, ◌+◌, ◌%◌, ◌&&◌, nat_lt, Bool, true, false, List, [], length, Option, Some, None, Result, Ok, Err, refl, sym, ap, ◌∙◌, subst, lt-ltb, arith}
use Rattle.std.specs.Prelude.{if◌then◌else◌}
use Rattle.eoe_server.specs.of_mailbox_mail.declared.mail.Kind.{Kind}
use Rattle.eoe_server.specs.of_mailbox_mail.declared.mail.MailFault.TheVariants.{Short, LengthPastArea, UnknownKind}
use Rattle.slave_model.specs.of_link_mails.Body.{Body}
use Rattle.eoe_server.specs.of_protocol_models.CoeMails as CoeMails
use Rattle.eoe_server.specs.of_protocol_models.CoeOctets as CoeOctets
use Rattle.eoe_server.specs.of_protocol_models.FoeMails as FoeMails
use Rattle.eoe_server.specs.of_protocol_models.FoeOctets as FoeOctets
use Rattle.eoe_server.specs.of_protocol_models.FoeServer.{Transfer, idle, reading, writing, closing}
use Rattle.eoe_server.specs.of_protocol_models.SoeMails as SoeMails
use Rattle.eoe_server.specs.of_protocol_models.SoeOctets as SoeOctets
use Rattle.eoe_server.specs.of_protocol_models.EoeMails as EoeMails
use Rattle.eoe_server.specs.of_protocol_models.EoeOctets as EoeOctets
use Rattle.eoe_server.specs.of_protocol_models.Network.{Station}
use Rattle.eoe_server.specs.of_protocol_models.EoeServer.{sends}
use Rattle.eoe_server.specs.of_protocol_models.Echo.{echo_of}
use Rattle.slave_parts.proofs.Keeping as Coe
use Rattle.slave_parts.proofs.EoeKeeping as Eoe
use Rattle.slave_parts.specs.FoeServed.{has_its_room}
use Rattle.slave_parts.proofs.Passes as Foe
use Rattle.idn_table.specs.of_exchange_model.Refusing.{gated}
use Rattle.slave_model.specs.Profile.{Protocol, Profile, IsProfile, serves, areas_of}
use Rattle.slave_model.specs.Application.{Core, Parts, ArePartsLawful, core_valid, station_valid, with_objects, stored, station_tables, station_files, written, station_elements, network}
use Rattle.slave_model.specs.Server.{Server, Seat, seat, reseated, heard_by, refused_counts}
use Rattle.slave_model.specs.Product.{served, refusal, serve, serve_by, serve_other, protocol_of}
use Rattle.slave_model.proofs.Stations.{both, left_of, right_of, tables_law, elements_law}
use Rattle.slave_parts.specs.Served.{is_fine, AreFilesServed}
use Rattle.slave_parts.proofs.SoeKeeping as Soe
use Rattle.slave_parts.proofs.Protocols.{files_stay}
use Rattle.slave_parts.proofs.Sides.{room_same}

module _ {T F I : Type 0} (o : Parts T F I) (law : ArePartsLawful o) (files : AreFilesServed o) (p : Profile) (is : IsProfile p) (al : ℕ) where
  -- a station of which the laws speak, with these files
  abbrev Keeps : F → Station (Core T F I) → Type 0
  Keeps f s = (station_valid o s ≡ true) × (s.app.files ≡ f)

  stored_keeps : (f : F) (s changed : Station (Core T F I)) (r : Result T ℕ) → s.app.files ≡ f → stored s r ≡ Ok changed → changed.app.files ≡ f
  stored_keeps f s changed (Ok objects) same is = let e : with_objects s objects ≡ changed = cc in ap (λ c. c.app.files) (sym e) ∙ same
  stored_keeps f s changed (Err code) same is = absurd (cc)

  written_keeps : (f : F) (s changed : Station (Core T F I)) (r : Result I ℕ) → s.app.files ≡ f → written s r ≡ Ok changed → changed.app.files ≡ f
  written_keeps f s changed (Ok idns) same is = let e : record s { app = record s.app { idns = idns } } ≡ changed = cc in ap (λ c. c.app.files) (sym e) ∙ same
  written_keeps f s changed (Err code) same is = absurd (cc)

  coe_keeps : (f : F) (v : Seat T F I Protocol.CoE) (b : Body) → Keeps f v.app → Keeps f ((served o p al Protocol.CoE).serve v b).0.app
  coe_keeps f v b k = Coe.keeps (station_tables o p.back al) p.has_eoe (areas_of p) (Keeps f)
      (λ s changed t bytes k is. ((tables_law o law p.back al).stays s changed t bytes k.0 is, stored_keeps f s changed ((o.tables al).download s.app.objects t bytes) k.1 is))
      (λ s octets k. ((tables_law o law p.back al).stays_cut s octets k.0, k.1))
      v (heard_by CoeOctets.coe_mail_heard (CoeMails.other []) b) k

  soe_keeps : (f : F) (v : Seat T F I Protocol.SoE) (b : Body) → Keeps f v.app → Keeps f ((served o p al Protocol.SoE).serve v b).0.app
  soe_keeps f v b k = Soe.keeps (station_elements o) p.back (Keeps f)
      (λ s changed t bytes k is. ((elements_law o law).stays s changed t bytes k.0 is, written_keeps f s changed (o.elements.write s.app.idns t bytes) k.1 is))
      v (heard_by SoeOctets.soe_mail_heard (SoeMails.other []) b) k

  sends_keep : (f : F) (c : Core T F I) (frame : ℕ) (r : Option (List ℕ)) → core_valid o c ≡ true → nat_lt frame 16 ≡ true → c.files ≡ f → Keeps f (sends p.back frame (c, r)).0
  sends_keep f c frame None fine few same = (both (core_valid o c) _ fine few, same)
  sends_keep f c frame (Some octets) fine few same = (both (core_valid o c) _ fine (lt-ltb ((frame + 1) % 16) 16 (omega arith)), same)

  set_keeps : (f : F) (s : Station (Core T F I)) (app : Core T F I) (block : List ℕ) (fixed : Bool) → Keeps f s → (if fixed then None else Some (record s.app { block = block })) ≡ Some app → Keeps f (record s { app = app })
  set_keeps f s app block true k is = absurd (cc)
  set_keeps f s app block false k is = let e : record s.app { block = block } ≡ app = cc in subst (λ c. Keeps f (record s { app = c })) e k

  eoe_keeps : (f : F) (v : Seat T F I Protocol.EoE) (b : Body) → Keeps f v.station → Keeps f ((served o p al Protocol.EoE).serve v b).0.station
  eoe_keeps f v b k = Eoe.keeps (network o p) p.back (Keeps f)
      (λ s octets k. sends_keep f s.app s.frame (echo_of p.mac octets) (left_of (core_valid o s.app) _ k.0) (right_of (core_valid o s.app) _ k.0) k.1)
      (λ s app block k is. set_keeps f s app block p.fixed_ip k is)
      v (heard_by EoeOctets.eoe_mail_heard (EoeMails.other []) b) k

  -- the room is one of the files alone
  room_by : (s t : Station (Core T F I)) (transfer : Transfer) → t.app.files ≡ s.app.files → has_its_room (station_files o 0) s transfer ≡ has_its_room (station_files o 0) t transfer
  room_by s t idle same = refl
  room_by s t (reading number rest) same = refl
  room_by s t (writing name number got) same = refl
  room_by s t (closing name number got told) same = ap (λ f. (o.files 0).has_room f (length got)) (sym same)

  fine_by : (s t : Station (Core T F I)) (transfer : Transfer) → Keeps s.app.files t → has_its_room (station_files o 0) s transfer ≡ true → (station_valid o t && has_its_room (station_files o 0) t transfer) ≡ true
  fine_by s t transfer k room = both (station_valid o t) _ k.0 (sym (room_by s t transfer k.1) ∙ room)

  abbrev IsFine : Server T F I → Type 0
  IsFine j = is_fine o p al j ≡ true

  valid_of : (j : Server T F I) → IsFine j → station_valid o j.app ≡ true
  valid_of j e = left_of (station_valid o j.app) _ e

  room_of : (j : Server T F I) → IsFine j → has_its_room (station_files o 0) j.app j.file ≡ true
  room_of j e = right_of (station_valid o j.app) _ e

  -- a protocol that isn't served counts alone
  counted_fine : (i : Protocol) (j : Server T F I) (b : Bool) → IsFine j → IsFine (reseated i j (if b then (refusal o p al i).counted (seat i j) else seat i j))
  counted_fine Protocol.CoE j true e = e
  counted_fine Protocol.CoE j false e = e
  counted_fine Protocol.FoE j true e = e
  counted_fine Protocol.FoE j false e = e
  counted_fine Protocol.SoE j true e = e
  counted_fine Protocol.SoE j false e = e
  counted_fine Protocol.EoE j true e = e
  counted_fine Protocol.EoE j false e = e

  foe_fine : (j : Server T F I) (b : Body) → IsFine j → IsFine (reseated Protocol.FoE j ((served o p al Protocol.FoE).serve (seat Protocol.FoE j) b).0)
  foe_fine j b e =
      let w = ((served o p al Protocol.FoE).serve (seat Protocol.FoE j) b).0 in
      let ready = Foe.passes (station_files o al) (files_stay o law files p is al) (areas_of p) (seat Protocol.FoE j) (heard_by FoeOctets.foe_mail_heard (FoeMails.other []) b)
      (both (station_valid o j.app) _ (valid_of j e) (room_same o files al j.app j.file ∙ room_of j e)) in
      both (station_valid o w.app) _ (left_of (station_valid o w.app) _ ready) (sym (room_same o files al w.app w.transfer) ∙ right_of (station_valid o w.app) _ ready)

  gated_fine : (i : Protocol) (g : Bool) (j : Server T F I) (b : Body) → IsFine j → IsFine (reseated i j ((gated g (served o p al i) (refusal o p al i)).serve (seat i j) b).0)
  gated_fine Protocol.CoE true j b e = fine_by j.app ((served o p al Protocol.CoE).serve (seat Protocol.CoE j) b).0.app j.file (coe_keeps j.app.app.files (seat Protocol.CoE j) b (valid_of j e, refl)) (room_of j e)
  gated_fine Protocol.FoE true j b e = foe_fine j b e
  gated_fine Protocol.SoE true j b e = fine_by j.app ((served o p al Protocol.SoE).serve (seat Protocol.SoE j) b).0.app j.file (soe_keeps j.app.app.files (seat Protocol.SoE j) b (valid_of j e, refl)) (room_of j e)
  gated_fine Protocol.EoE true j b e = fine_by j.app ((served o p al Protocol.EoE).serve (seat Protocol.EoE j) b).0.station j.file (eoe_keeps j.app.app.files (seat Protocol.EoE j) b (valid_of j e, refl)) (room_of j e)
  gated_fine i false j b e = counted_fine i j (refused_counts i b) e

  other_fine : (j : Server T F I) (kind : Kind) → IsFine j → IsFine (serve_other o p al j kind).0
  other_fine j Kind.Error e = e
  other_fine j Kind.AoE e = e
  other_fine j Kind.EoE e = e
  other_fine j Kind.CoE e = e
  other_fine j Kind.FoE e = e
  other_fine j Kind.SoE e = e
  other_fine j Kind.VoE e = e

  by_fine : (j : Server T F I) (b : Body) (kind : Kind) (found : Option Protocol) → IsFine j → IsFine (serve_by o p al j b kind found).0
  by_fine j b kind (Some i) e = gated_fine i (serves p al i) j b e
  by_fine j b kind None e = other_fine j kind e

  pub passes : (j : Server T F I) (b : Body) → IsFine j → IsFine (serve o p al j b).0
  passes j (Ok m) e = by_fine j (Ok m) m.kind (protocol_of m.kind) e
  passes j (Err Short) e = e
  passes j (Err LengthPastArea) e = e
  passes j (Err UnknownKind) e = e
